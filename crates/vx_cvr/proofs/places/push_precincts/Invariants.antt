use Rattle.std.proofs.Common.{◌≡◌, ◌++◌, drop, map}
use Rattle.serde_json.specs.View.{view}
use Rattle.vx_cvr.specs.Report.{precinct}
use Rattle.vx_cvr.proofs.places.push_precincts.Given as goal

abbrev pub invariant-loop-named : goal.invariant-loop-named
invariant-loop-named l =
    map view l.places.items ++ map precinct (drop l.named-index l.precincts) ≡ map view l.fn.places.items ++ map precinct l.precincts
