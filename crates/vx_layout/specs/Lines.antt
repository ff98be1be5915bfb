-- Text on a page: lines of 29 characters, two in each row of the grid. This project's own geometry.
use Rattle.std.specs.Prelude.{ℕ, ◌+◌, ◌-◌, ◌*◌, ◌/◌, ◌%◌, List, length, map, chars, encode_utf8_all}
use Rattle.std.specs.List.{range_with_len}
use Rattle.std.specs.Fork.{slice_chunk}
use Rattle.vx_grid.specs.declared.paper.Paper.{Paper}
use Rattle.vx_grid.specs.Grid.{x_of, y_of}
use Rattle.vx_layout.specs.declared.lines.TextLine.{TextLine}

-- how many characters a text has
abbrev pub size_of : List ℕ → ℕ
size_of text = length (chars text)

-- how many rows of 58 characters a text takes, a begun one counted
abbrev pub rows_of : List ℕ → ℕ
rows_of text = (size_of text + 57) / 58

-- how many lines of 29 characters a text takes, a begun one counted
abbrev pub lines_of : List ℕ → ℕ
lines_of text = (size_of text + 28) / 29

-- line k of a text, from 0: its next 29 characters, whatever the words are
abbrev pub line_of : List ℕ → ℕ → List ℕ
line_of text k = encode_utf8_all (slice_chunk (chars text) 29 k)

-- line k of a text whose first row is a grid row of a paper, right of the bubbles of a grid column
abbrev pub placed_line : Paper → ℕ → ℕ → List ℕ → ℕ → TextLine
placed_line paper col row text k = record {
  x = x_of col + 40;
  y = y_of paper (row + k / 2) - 18 + 20 * (k % 2);
  text = line_of text k;
}

-- the lines of a text whose first row is a grid row
unfoldable pub lines_at : Paper → ℕ → ℕ → List ℕ → List TextLine
lines_at paper col row text = map (placed_line paper col row text) (range_with_len 0 (lines_of text))
