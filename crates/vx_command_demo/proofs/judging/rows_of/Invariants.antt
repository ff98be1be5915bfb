use Rattle.std.proofs.Common.{◌≡◌, ◌<◌, ◌*◌, ◌^◌, length, take}
use Rattle.vx_grid.specs.Marks.{marks}
use Rattle.vx_grid.specs.Places.{IsWithin}
use Rattle.vx_command_demo.specs.Sums.{rows_at}
use Rattle.vx_command_demo.proofs.judging.rows_of.Given as goal

-- the sum of the places so far
abbrev pub invariant-loop-k : goal.invariant-loop-k
invariant-loop-k l = record {
  sum : l.total ≡ rows_at (take l.k l.border.places);
  bound : IsWithin (l.k * 2 ^ 31) l.total;
  all : 0 < l.k → length l.border.places ≡ marks l.border.paper;
}
