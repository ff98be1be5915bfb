use Rattle.std.proofs.Common.{◌≡◌, ◌*◌, ℕ, List, take, min}
use Rattle.std.specs.List.{flat_map}
use Rattle.vx_bits.specs.Packed.{packed_row}
use Rattle.vx_gray.specs.Gray.{Gray, bits_of}
use Rattle.vx_gray.specs.Near.{AreTopsAt}
use Rattle.vx_gray.specs.declared.near.Tops.{Tops}
use Rattle.vx_gray.proofs.bits.to_bits.Given as goal

-- the packed rows of the bands before one, and the tops that this one needs
pub record IsPackedTo (gray : Gray) (down : ℕ) (rows : List ℕ) (tops : Tops) : Type 0 where
  pub packed : rows ≡ flat_map packed_row (take (min (64 * down) gray.height) (bits_of gray).rows)
  pub next : AreTopsAt gray down tops

abbrev pub invariant-loop-down : goal.invariant-loop-down
invariant-loop-down l = IsPackedTo l.gray l.down l.rows.items l.tops
