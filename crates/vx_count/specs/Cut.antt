-- Columns or rows, cut at a frame.
use Rattle.std.specs.Prelude.{◌≡◌, ℕ, ◌+◌, min, ℤ, pos, negsuc, ◌+ℤ◌}

-- how many of a frame's columns, or rows, lie before a place
abbrev pub frame_before : ℤ → ℕ → ℕ
frame_before (pos n) frame = min n frame
frame_before (negsuc n) frame = 0

-- those of the `size` columns from `from` on that lie in a frame: the first, and how many
pub record IsCut (from : ℤ) (size frame first count : ℕ) : Type 0 where
  pub starts : first ≡ frame_before from frame
  pub ends : first + count ≡ frame_before (from +ℤ pos size) frame
