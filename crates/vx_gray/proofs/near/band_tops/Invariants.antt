use Rattle.std.proofs.Common.{◌-◌, ◌*◌}
use Rattle.vx_gray.specs.Near.{AreColumnTops}
use Rattle.vx_gray.proofs.near.band_tops.Given as goal

abbrev pub invariant-loop-v : goal.invariant-loop-v
invariant-loop-v l = AreColumnTops l.gray (64 * l.band) (l.v - 64 * l.band) l.tops.items
