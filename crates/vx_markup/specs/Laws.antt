-- What holds of texts that are written without markup.
use Rattle.std.specs.Prelude.{◌≡◌, ℕ, false, List, ◌++◌}
use Rattle.std.specs.List.{list_any}
use Rattle.serde_json.specs.Data.{Data}
use Rattle.vx_markup.specs.Escaped.{data_line, is_markup}

-- a text has none of the bytes that markup is made of
abbrev pub HasNoMarkup : List ℕ → Type 0
HasNoMarkup text = list_any is_markup text ≡ false

-- so it is of every line: nothing of a value can end the page's element that holds it
abbrev pub LinesHaveNoMarkup : Type 0
LinesHaveNoMarkup = (value : Data) → HasNoMarkup (data_line value)

-- and of two such texts together
abbrev pub TextsJoinWithoutMarkup : Type 0
TextsJoinWithoutMarkup = (one other : List ℕ) → HasNoMarkup one → HasNoMarkup other → HasNoMarkup (one ++ other)
