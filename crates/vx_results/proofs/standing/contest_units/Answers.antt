use Rattle.std.proofs.Common.{◌≡◌, ◌+◌, ◌++◌, ◌∷◌, [], arith, cond, rules}
use Rattle.vx_results.specs.Figures.{stands_in}
use Rattle.vx_results.proofs.Searching.{passing_laid}
use Rattle.vx_results.proofs.standing.contest_units.Goals as goal

pub loop-place-preserved : goal.loop-place-preserved
loop-place-preserved c =
    let place = c.loop-place.place in
    let stands : c.stands_in-stands.result ≡ stands_in c.args.election.now c.args.contest (place + 1) = search rules in
    let step : c.push_if.new.numbers.items ≡ c.loop-place.units.items ++ cond c.stands_in-stands.result ((place + 1) ∷ []) [] = search rules in
    passing_laid (stands_in c.args.election.now c.args.contest) 1 place (place + 1) c.loop-place.units.items c.push_if.new.numbers.items
    c.stands_in-stands.result (omega arith) c.loop-place.invariant stands step
