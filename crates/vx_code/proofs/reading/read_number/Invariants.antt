use Rattle.std.proofs.Common.{ℕ, List, ◌≡◌, ◌<◌, ◌^◌, take, map, Some}
use Rattle.vx_code.specs.Bits.{bits_of_number}
use Rattle.vx_code.specs.Code.{shown_by}
use Rattle.vx_code.proofs.reading.read_number.Given as goal

-- the first pairs show the bits of the number
pub record IsReadUpTo (counts : List ℕ) (n number : ℕ) : Type 0 where
  pub shown : take n (shown_by counts) ≡ map Some (bits_of_number n number)
  pub fits : number < 2 ^ n

abbrev pub invariant-loop-n : goal.invariant-loop-n
invariant-loop-n l = IsReadUpTo l.counts l.n l.number
