-- How a page lies in its scan: slants, and the shears among them. This project's own rule.
use Rattle.std.specs.Prelude.{ℕ, ◌<◌, ℤ, pos, ◌+ℤ◌, ◌-ℤ◌, ◌*ℤ◌}
use Rattle.std.specs.Int.{int_div_euclid}
use Rattle.vx_grid.specs.declared.places.Point.{Point}
use Rattle.vx_grid.specs.Places.{IsWithin}
use Rattle.vx_geom.specs.declared.shear.Shear.{Shear}

-- a slant moves a page by sx columns and sy rows, each column of the paper by b parts of 4096 further
-- down, and each row of the scan by a parts further to the right; p and q are parts that it begins with
pub record Slant : Type 0 where
  pub sx : ℤ
  pub sy : ℤ
  pub a : ℤ
  pub b : ℤ
  pub p : ℕ
  pub q : ℕ

-- a slant is slight: at most one row in 64 columns, and one column in 64 rows
pub record IsSlant (s : Slant) : Type 0 where
  pub a : IsWithin 64 s.a
  pub b : IsWithin 64 s.b
  pub p : s.p < 4096
  pub q : s.q < 4096

-- a number of parts of 4096 as a whole number, rounded towards minus infinity
unfoldable pub whole_of : ℤ → ℤ
whole_of parts = int_div_euclid parts (pos 4096)

-- how far a column of the paper is moved down
unfoldable pub down_by : Slant → ℤ → ℤ
down_by s x = s.sy +ℤ whole_of ((s.b *ℤ x) +ℤ pos s.p)

-- how far a row of the scan is moved to the right
unfoldable pub right_by : Slant → ℤ → ℤ
right_by s v = s.sx +ℤ whole_of ((s.a *ℤ v) +ℤ pos s.q)

-- the row of the scan where a place of the paper is
abbrev pub scan_row : Slant → ℤ → ℤ → ℤ
scan_row s x y = y +ℤ down_by s x

-- its column
abbrev pub scan_column : Slant → ℤ → ℤ → ℤ
scan_column s x y = x +ℤ right_by s (scan_row s x y)

-- the column of the paper that is at a place of the scan
abbrev pub paper_column : Slant → ℤ → ℤ → ℤ
paper_column s u v = u -ℤ right_by s v

-- its row
abbrev pub paper_row : Slant → ℤ → ℤ → ℤ
paper_row s u v = v -ℤ down_by s (paper_column s u v)

-- where a place of the paper is in the scan
abbrev pub to_scan_of : Slant → Point → Point
to_scan_of s p = record { u = scan_column s p.u p.v; v = scan_row s p.u p.v }

-- which place of the paper is at a place of the scan
abbrev pub to_paper_of : Slant → Point → Point
to_paper_of s p = record { u = paper_column s p.u p.v; v = paper_row s p.u p.v }

-- a shear is a slant that begins with no parts
abbrev pub slant_of : Shear → Slant
slant_of shear = record { sx = shear.sx; sy = shear.sy; a = shear.a; b = shear.b; p = 0; q = 0 }
