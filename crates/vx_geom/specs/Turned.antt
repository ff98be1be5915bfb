-- A slant, seen from the other end: how the page lies where its scan is turned by 180 degrees.
use Rattle.std.specs.Prelude.{ℕ, ℤ, pos, negsuc, ◌+ℤ◌, ◌-ℤ◌, ◌*ℤ◌}
use Rattle.vx_geom.specs.Slants.{Slant, whole_of}

-- a whole number from 0 as a natural number
abbrev pub natural_of : ℤ → ℕ
natural_of (pos n) = n
natural_of (negsuc n) = 0

-- what is left of parts of 4096 past their whole
abbrev pub rest_of : ℤ → ℕ
rest_of parts = natural_of (parts -ℤ (pos 4096 *ℤ whole_of parts))

-- the parts that the turned columns begin with: those of the last column of the paper, from the other end
abbrev pub row_parts : Slant → ℤ → ℤ
row_parts s columns = (pos 4095 -ℤ pos s.p) -ℤ (s.b *ℤ columns)

-- the same of the last row of the scan
abbrev pub column_parts : Slant → ℤ → ℤ
column_parts s height = (pos 4095 -ℤ pos s.q) -ℤ (s.a *ℤ height)

-- the slant of the turned page, where the last column and row of the paper and of the scan are these
abbrev pub turned_slant : ℤ → ℤ → ℤ → ℤ → Slant → Slant
turned_slant columns rows width height s = record {
  sx = ((width -ℤ columns) -ℤ s.sx) +ℤ whole_of (column_parts s height);
  sy = ((height -ℤ rows) -ℤ s.sy) +ℤ whole_of (row_parts s columns);
  a = s.a;
  b = s.b;
  p = rest_of (row_parts s columns);
  q = rest_of (column_parts s height);
}
