-- What of a text shows on paper: which of its characters are hollow boxes, whether it shows nothing, where a line of it
-- ends within a word and which word that is, and whether two texts look alike.
use Rattle.std.specs.Prelude.{ℕ, Bool, ◌&&◌, not, ◌+◌, ◌-◌, ◌==◌, max, List, [], ◌∷◌, length, take, chars, encode_utf8_all, bytes_eq, slice_index, slice_index_or, if◌then◌else◌}
use Rattle.std.specs.List.{after_last, before_first, flat_map, list_all, list_any, range_with_len}
use Rattle.vx_font.specs.Font.{dots_of}
use Rattle.vx_layout.specs.Lines.{size_of, line_of}

-- whether the same dots are drawn for two characters
abbrev pub is_drawn_as : ℕ → ℕ → Bool
is_drawn_as c other = bytes_eq (dots_of c) (dots_of other)

-- whether a character is drawn as the hollow box, as U+FFFD is: the box stands for each that the font hasn't
abbrev pub is_hollow : ℕ → Bool
is_hollow c = is_drawn_as c 65533

-- whether it is drawn as the blank is
abbrev pub is_blank : ℕ → Bool
is_blank c = is_drawn_as c 32

-- whether a hollow character stands at a place, and at none before it
abbrev pub is_new_hollow : List ℕ → ℕ → Bool
is_new_hollow characters place =
    is_hollow (slice_index characters place)
    && not (list_any (λ c. c == slice_index characters place) (take place characters))

-- the character there, if it is such a one
abbrev pub hollow_at : List ℕ → ℕ → List ℕ
hollow_at characters place =
    if is_new_hollow characters place then slice_index characters place ∷ [] else []

-- the hollow characters among some, each once, in the order in which they first stand there
abbrev pub hollow_in : List ℕ → List ℕ
hollow_in characters = flat_map (hollow_at characters) (range_with_len 0 (length characters))

-- whether characters show nothing: there is one at least, and each is drawn as a blank
unfoldable pub shows_nothing : List ℕ → Bool
shows_nothing characters = not (length characters == 0) && list_all is_blank characters

-- the first and the last character of a line that has one
abbrev pub first_of : List ℕ → ℕ
first_of line = slice_index (chars line) 0

abbrev pub last_of : List ℕ → ℕ
last_of line = slice_index (chars line) (size_of line - 1)

-- whether line k of a text, from 0, which isn't its last, ends within a word: neither its last character nor the
-- first one of the next line is a blank
unfoldable pub is_cut : List ℕ → ℕ → Bool
is_cut text k = not (is_blank (last_of (line_of text k))) && not (is_blank (first_of (line_of text (k + 1))))

-- what of a line's characters stands behind the last blank, as a text; all of them where none is blank
abbrev pub end_word : List ℕ → List ℕ
end_word characters = encode_utf8_all (after_last is_blank characters)

-- what of them stands before the first blank
abbrev pub front_word : List ℕ → List ℕ
front_word characters = encode_utf8_all (before_first is_blank characters)

-- the character in a cell of a row of characters; a cell behind the last one is blank
abbrev pub cell_of : List ℕ → ℕ → ℕ
cell_of characters place = slice_index_or characters place 32

-- whether the same dots are in a cell of two rows of characters
abbrev pub is_same_cell : List ℕ → List ℕ → ℕ → Bool
is_same_cell first second place = is_drawn_as (cell_of first place) (cell_of second place)

-- whether the same dots are in each cell
unfoldable pub are_same_cells : List ℕ → List ℕ → Bool
are_same_cells first second =
    list_all (is_same_cell first second) (range_with_len 0 (max (length first) (length second)))

-- whether two texts look alike
abbrev pub look_alike : List ℕ → List ℕ → Bool
look_alike first second = are_same_cells (chars first) (chars second)
