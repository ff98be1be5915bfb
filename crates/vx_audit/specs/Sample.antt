-- The sample: the places of records that the words of a generator draw.
use Rattle.std.specs.Prelude.{ℕ, ◌%◌, ◌==◌, Bool, if◌then◌else◌, List, [], ◌∷◌, filter, map}
use Rattle.std.specs.List.{list_any, range_with_len}
use Rattle.rand_chacha.specs.ChaCha.{ChaCha, word_at, key_of}

-- the word at a place of stream 0 of ChaCha20, ten double rounds, with the seed as its key
unfoldable pub word_of : List ℕ → ℕ → ℕ
word_of seed place = word_at 10 (key_of seed) 0 place

-- a word draws a record, of so many
abbrev pub draws : List ℕ → ℕ → ℕ → ℕ → Bool
draws seed count place word = place == word_of seed word % count

-- one of the first words draws it
abbrev pub is_drawn : List ℕ → ℕ → ℕ → ℕ → Bool
is_drawn seed size count place = list_any (draws seed count place) (range_with_len 0 size)

-- all that are drawn, each once and ascending
unfoldable pub sample_of : List ℕ → ℕ → ℕ → List ℕ
sample_of seed size count = filter (is_drawn seed size count) (range_with_len 0 count)

-- what each of the first words draws, in their order, so that a record may be drawn again; nothing where there is no record
unfoldable pub draws_of : List ℕ → ℕ → ℕ → List ℕ
draws_of seed size count = if count == 0 then [] else map (λ word. word_of seed word % count) (range_with_len 0 size)

-- a generator before its word at a place
abbrev pub at_word : List ℕ → ℕ → ChaCha
at_word seed place = record { key = key_of seed; stream = 0; word_pos = place }

-- a place, where it holds
abbrev pub where_held : ℕ → Bool → List ℕ
where_held place held = if held then place ∷ [] else []
