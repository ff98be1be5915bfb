use Rattle.std.proofs.Common.{◌≡◌, ◌++◌, drop, map}
use Rattle.serde_json.specs.View.{view}
use Rattle.vx_cvr.specs.Report as spec
use Rattle.vx_cvr.proofs.contests.push_contests.Given as goal

abbrev pub invariant-loop-one : goal.invariant-loop-one
invariant-loop-one l =
    map view l.contests.items ++ map spec.contest (drop l.one-index l.given) ≡ map view l.fn.contests.items ++ map spec.contest l.given
