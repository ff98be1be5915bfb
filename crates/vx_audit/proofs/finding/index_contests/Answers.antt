use Rattle.std.proofs.Common.{◌∙◌, ap, sym, refl, List, ℕ}
use Rattle.std.specs.Prelude.{bytes_eq}
use Rattle.vx_tally.specs.declared.report.ReportContest.{ReportContest}
use Rattle.vx_audit.specs.Finding.{place_of, placed}
use Rattle.vx_audit.proofs.Indexed.{position-more}
use Rattle.vx_audit.proofs.finding.index_contests.Goals as goal

pub loop-place-preserved : goal.loop-place-preserved
loop-place-preserved c = λ id.
    let one = c.index-contests-place.result in
    c.in_ok-put.ensures id
    ∙ ap (λ (key : List ℕ). placed key c.loop-place.place id (place_of c.loop-place.index id)) c.as_str.ensures
    ∙ ap (placed one.id c.loop-place.place id) (c.loop-place.invariant id)
    ∙ sym (position-more (λ (known : ReportContest). bytes_eq id known.id) c.args.contests.now c.loop-place.place one id one.id c.loop-place-test.true c.index-contests-place.is refl)
