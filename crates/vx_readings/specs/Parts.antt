-- A text in parts: its lines, and the words of a line.
use Rattle.std.specs.Prelude.{ℕ, ◌==◌, if◌then◌else◌, List, [], ◌∷◌}

-- parts whose first begins with one byte more
abbrev pub begun_with : ℕ → List (List ℕ) → List (List ℕ)
begun_with byte [] = (byte ∷ []) ∷ []
begun_with byte (part ∷ parts) = (byte ∷ part) ∷ parts

-- the parts of a text before, between and behind the places of a byte: one more than it has such places
unfoldable pub parts_of : ℕ → List ℕ → List (List ℕ)
parts_of at [] = [] ∷ []
parts_of at (byte ∷ text) = if byte == at then [] ∷ parts_of at text else begun_with byte (parts_of at text)

-- the words of a line, with one blank between two of them
abbrev pub words_of : List ℕ → List (List ℕ)
words_of line = parts_of 32 line

-- the lines of a text, each without its LF, which the last may lack
unfoldable pub lines_of : List ℕ → List (List ℕ)
lines_of [] = []
lines_of (byte ∷ text) = if byte == 10 then [] ∷ lines_of text else begun_with byte (lines_of text)
