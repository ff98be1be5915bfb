-- Sums that are kept by texts, in the order of first appearance.
use Rattle.std.specs.Prelude.{◌≡◌, ◌<◌, ℕ, ◌+◌, List, [], ◌∷◌, ◌++◌, length, map, bytes_eq, if◌then◌else◌, slice_index_or}
use Rattle.indexmap.specs.IndexMap.{insert_entry}
use Rattle.vx_results.specs.Firsts.{Numbered, sum_for, texts_of}

-- the sum that is kept for a text; one that isn't there is 0
abbrev pub sum_at : List Numbered → List ℕ → ℕ
sum_at [] text = 0
sum_at (entry ∷ entries) text = if bytes_eq text entry.0 then entry.1 else sum_at entries text

-- a number more for a text
abbrev pub raised : List Numbered → List ℕ → ℕ → List Numbered
raised entries text number = insert_entry bytes_eq entries text (sum_at entries text + number)

-- the texts that are kept
abbrev pub kept_texts : List Numbered → List (List ℕ)
kept_texts entries = map (λ (entry : Numbered). entry.0) entries

-- what is kept are the sums of pairs
pub record AreSums (pairs entries : List Numbered) : Type 0 where
  pub texts : kept_texts entries ≡ texts_of pairs
  pub sums : (text : List ℕ) → sum_at entries text ≡ sum_for pairs text

-- whatever the sums were of, now more pairs are in them
abbrev pub Adds : List Numbered → List Numbered → List Numbered → Type 0
Adds more old new = (pairs : List Numbered) → AreSums pairs old → AreSums (pairs ++ more) new

-- the same for sums at each place of a list, each with pairs of its own
pub record AddsEach (more : ℕ → List Numbered) (old new : List (List Numbered)) : Type 0 where
  pub count : length new ≡ length old
  pub each : (place : ℕ) → place < length old → Adds (more place) (slice_index_or old place []) (slice_index_or new place [])
