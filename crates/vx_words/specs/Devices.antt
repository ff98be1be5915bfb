-- A device is named by a UUID, in each of the forms that `uuid` reads, and known by its hyphenated form in lower case.
use Rattle.std.specs.Prelude.{ℕ, List, Option, option_map}
use Rattle.uuid.specs.Text.{parsed, hyphenated_text, lower}

abbrev pub device_of : List ℕ → Option (List ℕ)
device_of word = option_map (hyphenated_text lower) (parsed word)
