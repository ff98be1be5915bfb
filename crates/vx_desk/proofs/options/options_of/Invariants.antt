use Rattle.std.proofs.Common.{◌≡◌, map}
use Rattle.std.specs.List.{flat_map, range_with_len}
use Rattle.serde_json.specs.View.{view}
use Rattle.vx_desk.specs.Contests as spec
use Rattle.vx_desk.proofs.options.options_of.Given as goal

-- the options so far
abbrev pub invariant-loop-k : goal.invariant-loop-k
invariant-loop-k l =
    map view l.options.items ≡ flat_map (spec.option_at l.contest l.number l.image l.region) (range_with_len 0 l.k)
