-- What is drawn for a character: this project's own font, seven dot rows by five dot columns.
use Rattle.std.specs.Prelude.{ℕ, ◌-◌, ◌==◌, List, [], Bool, nat_lt, if◌then◌else◌, slice_index, slice_index_or}
use Rattle.std.specs.Int.{bit_at}
use Rattle.vx_font.specs.declared.glyphs.TheConstants.{GLYPHS, BLANK, HOLLOW}

-- the five dot columns of the character of a code, from the left: its glyph for the codes 32 to 126,
-- a blank for the control characters, and the hollow box for all others
unfoldable pub dots_of : ℕ → List ℕ
dots_of c =
    if nat_lt c 32 then BLANK
    else if nat_lt c 127 then slice_index_or GLYPHS (c - 32) []
    else if c == 127 then BLANK
    else HOLLOW

-- whether the dot in a column, 0 to 4, and a row, 0 to 6 from the top, of a character is dark
unfoldable pub dot_of : ℕ → ℕ → ℕ → Bool
dot_of c column row = bit_at (slice_index (dots_of c) column) row == 1
