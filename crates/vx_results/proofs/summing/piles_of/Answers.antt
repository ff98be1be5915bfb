use Rattle.std.proofs.Common.{◌≡◌, ◌+◌, ◌++◌, ◌∷◌, [], List, arith, length, length-append, subst, sym}
use Rattle.std.specs.Prelude.{All}
use Rattle.std.proofs.lemmas.List.Elements.{All-push}
use Rattle.vx_tally.specs.Running.{Running, SumsUp}
use Rattle.vx_results.proofs.summing.piles_of.Goals as goal

pub loop-place-preserved : goal.loop-place-preserved
loop-place-preserved c =
    let before = c.loop-place.piles.items in
    let more : c.push.new.self.items ≡ before ++ c.new.result ∷ [] = c.in_ok-push.ensures.items in
    subst (λ (all : List Running). (length all ≡ c.loop-place.place + 1) × All (SumsUp []) all) (sym more) (
      omega (arith, length-append before (c.new.result ∷ []), c.loop-place.invariant.0),
      All-push (SumsUp []) before c.new.result c.loop-place.invariant.1 c.new.ensures,
    )
