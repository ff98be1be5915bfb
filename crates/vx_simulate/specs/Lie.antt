-- How a simulated page lies in its scan. This project's own rule.
use Rattle.std.specs.Prelude.{ℕ, ◌+◌, ℤ, pos, ◌-ℤ◌, ◌*ℤ◌}
use Rattle.rand_pcg.specs.Lcg.{Lcg}
use Rattle.vx_grid.specs.declared.paper.Paper.{Paper}
use Rattle.vx_grid.specs.declared.paper.Paper.TheVariants.{Letter, Legal}
use Rattle.vx_grid.specs.Paper.{first_y}
use Rattle.vx_grid.specs.Places.{IsWithin}
use Rattle.vx_geom.specs.declared.shear.Shear.{Shear}
use Rattle.vx_geom.specs.Slants.{whole_of}
use Rattle.vx_simulate.specs.Draws.{draw}

-- the frame of a simulated scan
abbrev pub frame_width : ℕ
frame_width = 1800

abbrev pub frame_height : Paper → ℕ
frame_height Letter = 2240
frame_height Legal = 2840

-- the shear with two slopes that takes the first mark, 58 columns from the left, to a place of the scan
abbrev pub shear_to : Paper → ℤ → ℤ → ℤ → ℤ → Shear
shear_to paper a b u v = record {
  sx = (u -ℤ pos 58) -ℤ whole_of (a *ℤ v);
  sy = (v -ℤ pos (first_y paper)) -ℤ whole_of (b *ℤ pos 58);
  a = a;
  b = b;
}

-- a shear that may be drawn: slight slopes and a short way
pub record IsShort (shear : Shear) : Type 0 where
  pub a : IsWithin 64 shear.a
  pub b : IsWithin 64 shear.b
  pub right : IsWithin 100 shear.sx
  pub down : IsWithin 100 shear.sy

-- the columns where the first mark may come to lie: the first of them, and how many there are
abbrev pub start_column : Paper → ℕ
start_column Letter = 60
start_column Legal = 70

abbrev pub start_columns : Paper → ℕ
start_columns Letter = 53
start_columns Legal = 43

-- the shear that is drawn: the slope of the rows, that of the columns, then the column and the row where the first
-- mark lies
abbrev pub draw_shear : Paper → Lcg → Shear × Lcg
draw_shear paper g =
    let a = draw 129 g in
    let b = draw 129 a.1 in
    let u = draw (start_columns paper) b.1 in
    let v = draw 61 u.1 in
    (shear_to paper (pos a.0 -ℤ pos 64) (pos b.0 -ℤ pos 64) (pos (start_column paper + u.0)) (pos (40 + v.0)), v.1)
