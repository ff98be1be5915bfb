use Rattle.std.proofs.Common.{◌∙◌, sym, subst, Option, ℕ, length, ◌<◌, arith}
use Rattle.std.specs.Prelude.{IfSome, bytes_eq}
use Rattle.vx_tally.specs.declared.report.ReportContest.{ReportContest}
use Rattle.vx_audit.proofs.Feeds.{position-within}
use Rattle.vx_audit.proofs.naming.next_contest.Goals as goal

pub returns-in-Some-clause-within : goal.returns-in-Some-clause-within
returns-in-Some-clause-within c =
    let contests = c.args.contests.now in
    let id = c.in-Some.id.now in
    subst (λ (found : Option ℕ). IfSome found (λ place. place < length contests)) (sym (c.find.ensures ∙ c.requires.at id))
    (position-within (λ (contest : ReportContest). bytes_eq id contest.id) 0 contests (length contests) (omega arith))
