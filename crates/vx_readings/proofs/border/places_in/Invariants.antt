use Rattle.std.proofs.Common.{◌≡◌, length}
use Rattle.vx_readings.proofs.FilledPlaces.{FilledTo}
use Rattle.vx_readings.proofs.border.places_in.Given as goal

-- the words so far spell the places so far
abbrev pub invariant-loop-k : goal.invariant-loop-k
invariant-loop-k l = record {
  filled : FilledTo l.fn.words l.rest l.places l.k;
  room : length l.places ≡ 168;
}
