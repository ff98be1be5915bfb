-- The kinds of letters in a record.
use Rattle.std.specs.Prelude.{ℕ, ◌||◌, ◌==◌, Bool}
use Rattle.vx_json.specs.Reading.{is_within}
use Rattle.vx_events.specs.Fits.{is_batch_character}
use Rattle.vx_records.specs.declared.letters.Letters.{Letters}
use Rattle.vx_records.specs.declared.letters.Letters.TheVariants.{Batch, States, Hex}

-- a state's letter
abbrev pub is_state_letter : ℕ → Bool
is_state_letter b = b == 109 || b == 103 || b == 99

-- a lower-case hex digit
abbrev pub is_hex : ℕ → Bool
is_hex b = is_within 48 57 b || is_within 97 102 b

abbrev pub is_letter : Letters → ℕ → Bool
is_letter Batch b = is_batch_character b
is_letter States b = is_state_letter b
is_letter Hex b = is_hex b
