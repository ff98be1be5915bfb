-- How data stand in a page: as lines of JSON without the bytes that markup is made of.
use Rattle.std.specs.Prelude.{ℕ, ◌==◌, ◌||◌, Bool, if◌then◌else◌, List, [], ◌∷◌, ◌++◌, codes}
use Rattle.std.specs.List.{flat_map}
use Rattle.serde_json.specs.Data.{Data}
use Rattle.serde_json.specs.Written.{compact_text}

-- `<`, `>` or `&`, by which a script element could end or be read otherwise
abbrev pub is_markup : ℕ → Bool
is_markup byte = byte == 60 || byte == 62 || byte == 38

-- a byte of a JSON text, or how it is written where it is markup: JSON reads the same from both, as such a byte stands in
-- texts alone
abbrev pub escaped_byte : ℕ → List ℕ
escaped_byte byte =
    if byte == 60 then codes "\\u003c"
    else if byte == 62 then codes "\\u003e"
    else if byte == 38 then codes "\\u0026"
    else byte ∷ []

-- a text without markup
abbrev pub escaped : List ℕ → List ℕ
escaped text = flat_map escaped_byte text

-- the line of a value: its JSON without blanks and without markup, and a line end
abbrev pub data_line : Data → List ℕ
data_line value = escaped (compact_text value) ++ 10 ∷ []
