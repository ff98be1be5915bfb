use Rattle.std.proofs.Common.{ℕ, ◌≡◌, ◌*◌, List, Bool, take, length}
use Rattle.std.specs.List.{flat_map}
use Rattle.vx_code.specs.Code.{pair_of, bits_of}
use Rattle.vx_code.proofs.boxes.boxes_of.Given as goal

-- the boxes of the first bits are printed
pub record IsPrintedUpTo (boxes bits : List Bool) (n : ℕ) : Type 0 where
  pub room : length boxes ≡ 84
  pub printed : take (2 * n) boxes ≡ flat_map pair_of (take n bits)

abbrev pub invariant-loop-n : goal.invariant-loop-n
invariant-loop-n l = IsPrintedUpTo l.boxes (bits_of l.fn.code) l.n
