use Rattle.std.proofs.Common.{◌≡◌, ◌++◌, [], ℕ, drop, map}
use Rattle.std.specs.List.{flat_map, range_with_len}
use Rattle.serde_json.specs.View.{view}
use Rattle.vx_cvr.specs.Report as spec
use Rattle.vx_cvr.proofs.contests.candidates.Given as goal

abbrev pub invariant-loop-contest : goal.invariant-loop-contest
invariant-loop-contest l =
    map view l.candidates.items ++ flat_map spec.candidates_of (drop l.contest-index l.contests) ≡ flat_map spec.candidates_of l.contests
