use Rattle.std.proofs.Common.{◌≡◌}
use Rattle.std.specs.Prelude.{slice_get}
use Rattle.std.specs.List.{flat_map, range_with_len}
use Rattle.vx_sampling.specs.Rows.{row_at}
use Rattle.vx_sampling.proofs.rows.rows_of.Given as goal

abbrev pub invariant-loop-place : goal.invariant-loop-place
invariant-loop-place l = l.rows.items ≡ flat_map (λ place. row_at l.records l.hand l.sample.draws l.limit place (slice_get l.contests place)) (range_with_len 0 l.place)
