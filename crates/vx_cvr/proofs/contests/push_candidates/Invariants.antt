use Rattle.std.proofs.Common.{◌≡◌, ◌++◌, [], ℕ, drop, map}
use Rattle.std.specs.List.{flat_map, range_with_len}
use Rattle.serde_json.specs.View.{view}
use Rattle.vx_cvr.specs.Report as spec
use Rattle.vx_cvr.proofs.contests.push_candidates.Given as goal

abbrev pub invariant-loop-option : goal.invariant-loop-option
invariant-loop-option l =
    map view l.candidates.items ≡ map view l.fn.candidates.items ++ map (spec.candidate l.contest) (range_with_len 0 l.option)
