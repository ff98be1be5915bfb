use Rattle.std.proofs.Common.{◌≡◌, ◌∙◌, ℕ, Some, length, sym, ap}
use Rattle.std.specs.Prelude.{slice_get}
use Rattle.std.proofs.lemmas.Option.{slice_get-get_or}
use Rattle.vx_base.proofs.Numbers.{below-from_yes}
use Rattle.vx_ranked.specs.Rankings.{final_on}
use Rattle.vx_ranked.proofs.Ascending.{found-at}
use Rattle.vx_ranked.proofs.ranking.final_at.Goals as goal

pub returns-then-one-contest : goal.returns-then-one-contest
returns-then-one-contest c =
    let finals = c.args.finals.now in
    let inside = below-from_yes c.args.likely (length finals) (sym c.in-Some.ensures.lookup.0) in
    let there : slice_get finals c.args.likely ≡ Some c.in-Some.one.now =
    slice_get-get_or finals c.args.likely _ inside ∙ ap Some (sym c.in-Some.ensures.lookup.1) in
    sym (found-at finals c.args.likely c.in-Some.one.now c.requires there) ∙ ap (λ (n : ℕ). final_on finals n) c.if-one-contest.true
