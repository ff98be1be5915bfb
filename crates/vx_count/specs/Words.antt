-- Packed rows that are read eight bytes at a time.
use Rattle.std.specs.Prelude.{◌≡◌, ◌<◌, ◌≤◌, ℕ, ◌+◌, ◌-◌, ◌*◌, ◌/◌, ◌%◌, List, length, slice_index}
use Rattle.std.specs.Int.{bit_at}
use Rattle.vx_bits.specs.Packed.{stride_of}

-- a number of 64 bits that has the bits of eight bytes from a place on, the first the highest
pub record IsWordAt (bytes : List ℕ) (at word : ℕ) : Type 0 where
  pub bits : (i : ℕ) → i < 64 →
      bit_at word (63 - i) ≡ bit_at (slice_index bytes (at + i / 8)) (7 - i % 8)

-- packed rows of at most 4096 pixels, with eight bytes behind them
pub record HasWords (width height stride : ℕ) (bytes : List ℕ) : Type 0 where
  pub columns : width ≤ 4096
  pub across : stride ≡ stride_of width
  pub size : length bytes ≡ height * stride + 8
