use Rattle.std.proofs.Common.{◌*◌, ℕ, ap, sym, ◌∙◌}
use Rattle.std.specs.Prelude.{find, nat_lt, option_map, is_some, Option}
use Rattle.vx_base.proofs.Numbers.{equal-no}
use Rattle.vx_rounds.specs.Rounds.{total_of}
use Rattle.vx_rounds.proofs.Least.{last-is, some-counts, out-last}
use Rattle.vx_rounds.proofs.deciding.decide.Goals as goal

pub returns-clause-out : goal.returns-clause-out
returns-clause-out c =
    let wins = c.winner-winner.ensures ∙ ap (λ (t : ℕ). option_map (λ (count : ℕ × ℕ). count.0)
    (find (λ (count : ℕ × ℕ). nat_lt t (2 * count.1)) c.args.counts.now)) c.total-total.ensures in
    let no_winner = sym (ap (λ (o : Option ℕ). is_some o) wins) ∙ sym c.is_some.ensures ∙ c.if-is_some.false in
    let counted = equal-no (total_of c.args.counts.now) 0 (λ h. c.if-total-eq0.false (c.total-total.ensures ∙ h)) in
    let any = some-counts c.args.counts.now (λ h. c.if-total-eq0.false (c.total-total.ensures ∙ h)) in
    c.last_with-out.ensures
    ∙ last-is c.args.counts.now c.least.result c.least.ensures.none_less (c.least.ensures.met any)
    ∙ sym (out-last c.args.counts.now counted no_winner)
