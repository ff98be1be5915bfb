-- The table of the commands: its names differ, each is found by its word, and each row is one of words that may be arguments.
use Rattle.std.proofs.Common.{◌≡◌, ◌<◌, ◌==◌, ◌&&◌, ℕ, Bool, true, false, cond, List, [], ◌∷◌, Some, length, refl, sym, ap, ◌∙◌}
use Rattle.std.specs.Prelude.{find, nat_lt, not, slice_index}
use Rattle.std.specs.List.{list_all}
use Rattle.std.specs.Str.{bytes_eq}
use Rattle.std.proofs.lemmas.Bool.{and_parts, eqb-false, ltb-true, not-true}
use Rattle.std.proofs.lemmas.Option.{none-some, same_Some}
use Rattle.std.proofs.lemmas.Slice.Eq.{bytes_eq-Decides}
use Rattle.vx_words.specs.declared.name.Name.{Name}
use Rattle.vx_words.specs.Names.{all_names, name_in, name_word, row_of}
use Rattle.vx_words.specs.Words.{IsArgument}
use Rattle.vx_words.proofs.Commands.{found}

-- no two names are the same
pub same_name : (a b : Name) → name_word a ≡ name_word b → a ≡ b
same_name a b same = same_Some a b (sym (found a) ∙ ap name_in same ∙ found b)

-- ---- the first element of a list that passes a test

module _ {X : Type 0} (p : X → Bool) where
  first_passes : (xs : List X) (x : X) → find p xs ≡ Some x → p x ≡ true
  first_passes [] x is = absurd (none-some x is)
  first_passes (y ∷ xs) x is = by (p y) refl is (first_passes xs x)
    where
      by : (here : Bool) → p y ≡ here → cond here (Some y) (find p xs) ≡ Some x → (find p xs ≡ Some x → p x ≡ true) → p x ≡ true
      by true passes it later = ap p (sym (same_Some y x it)) ∙ passes
      by false passes it later = later it

  -- what all pass it passes
  every : (test : X → Bool) (xs : List X) (x : X) → find p xs ≡ Some x → list_all test xs ≡ true → test x ≡ true
  every test [] x is all = absurd (none-some x is)
  every test (y ∷ xs) x is all =
      by (p y) is (and_parts (test y) (list_all test xs) all).0 (λ it. every test xs x it (and_parts (test y) (list_all test xs) all).1)
    where
      by : (here : Bool) → cond here (Some y) (find p xs) ≡ Some x → test y ≡ true → (find p xs ≡ Some x → test x ≡ true) → test x ≡ true
      by true it passes later = ap test (sym (same_Some y x it)) ∙ passes
      by false it passes later = later it

-- ---- the rows of the table

-- the word that a name was found by is its own
pub its_word : (word : List ℕ) (name : Name) → name_in word ≡ Some name → name_word name ≡ word
its_word word name is =
    (bytes_eq-Decides (name_word name) word).0 (first_passes (λ (n : Name). bytes_eq (name_word n) word) all_names name is)

-- a name may be an argument, and its command has a word behind it
abbrev is_row : Name → Bool
is_row name = (nat_lt 0 (length (name_word name)) && not (slice_index (name_word name) 0 == 45)) && nat_lt 1 (row_of name).least

each_row : (name : Name) → is_row name ≡ true
each_row name = every (λ (n : Name). bytes_eq (name_word n) (name_word name)) is_row all_names name (found name) refl

pub name_is_argument : (name : Name) → IsArgument (name_word name)
name_is_argument name =
    let row = and_parts (nat_lt 0 (length (name_word name)) && not (slice_index (name_word name) 0 == 45)) (nat_lt 1 (row_of name).least) (each_row name) in
    let word = and_parts (nat_lt 0 (length (name_word name))) (not (slice_index (name_word name) 0 == 45)) row.0 in
    record {
      some = ltb-true 0 (length (name_word name)) word.0;
      no_option = eqb-false (slice_index (name_word name) 0) 45 (not-true (slice_index (name_word name) 0 == 45) word.1);
    }

pub two_words_at_least : (name : Name) → 1 < (row_of name).least
two_words_at_least name =
    ltb-true 1 (row_of name).least
    (and_parts (nat_lt 0 (length (name_word name)) && not (slice_index (name_word name) 0 == 45)) (nat_lt 1 (row_of name).least) (each_row name)).1
