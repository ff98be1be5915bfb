-- Columns of a packed row that stand side by side.
use Rattle.std.specs.Prelude.{◌≡◌, ◌<◌, ℕ, ◌-◌, ◌*◌, ◌/◌, ◌%◌, ◌&&◌, nat_le, nat_lt}
use Rattle.std.specs.Int.{bit_at}
use Rattle.vx_plane.specs.Count.{one_if}
use Rattle.vx_bits.specs.declared.run.Run.{Run}

-- a byte of which the pixels from index `first` on and before index `last` are dark
abbrev pub IsMask : ℕ → ℕ → ℕ → Type 0
IsMask byte first last = (i : ℕ) → i < 8 → bit_at byte (7 - i) ≡ one_if (nat_le first i && nat_lt i last)

-- a run of at least one column, with the bits of its first byte from `left` on, and those of its
-- last byte before `right`
pub record IsRun (run : Run) : Type 0 where
  pub some : run.left < run.right
  pub first : IsMask run.first_bits (run.left % 8) 8
  pub last : IsMask run.last_bits 0 (run.right - 8 * ((run.right - 1) / 8))
