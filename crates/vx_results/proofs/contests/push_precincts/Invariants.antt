use Rattle.std.proofs.Common.{◌≡◌, ◌++◌, map, take}
use Rattle.vx_election_model.specs.declared.named.Named.{Named}
use Rattle.vx_cvr.specs.Names.{precinct_name}
use Rattle.vx_results.proofs.contests.push_precincts.Given as goal

abbrev pub invariant-loop-named : goal.invariant-loop-named
invariant-loop-named l =
    l.units.items ≡ l.initial.units.items ++ map (λ (named : Named). precinct_name named.id) (take l.named-index l.precincts)
