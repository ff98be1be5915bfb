use Rattle.std.proofs.Common.{◌≡◌, ◌+◌, ◌++◌, ◌∷◌, [], arith, rules}
use Rattle.vx_results.proofs.Searching.{range_laid}
use Rattle.vx_results.proofs.standing.precinct_units.Goals as goal

pub loop-place-preserved : goal.loop-place-preserved
loop-place-preserved c =
    let place = c.loop-place.place in
    let step : c.push.new.self.items ≡ c.loop-place.units.items ++ (place + 1) ∷ [] = search rules in
    range_laid place (place + 1) c.loop-place.units.items c.push.new.self.items (omega arith) c.loop-place.invariant step
