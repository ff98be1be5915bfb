-- A glyph of the table has seven rows, by the computed test.
use Rattle.std.proofs.Common.{◌-◌, arith}
use Rattle.vx_font.proofs.Table.{glyph_rows}
use Rattle.vx_font.proofs.glyphs.dots.Goals as goal

pub returns-in-32-to-126-clause-seven_rows : goal.returns-in-32-to-126-clause-seven_rows
returns-in-32-to-126-clause-seven_rows c = glyph_rows (c.args.c - 32) c.glyph_at.result (omega arith) c.glyph_at.ensures
