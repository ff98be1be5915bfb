-- The events that were walked over.
use Rattle.std.proofs.Common.{◌≡◌, ◌≤◌, ◌+◌, ℕ, zero, suc, List, [], ◌∷◌, length, take, drop, Option, Some, false, ◌++◌, refl, ap, ◌∙◌, add-one, arith}
use Rattle.std.specs.Prelude.{slice_get}
use Rattle.std.specs.List.{flat_map}
use Rattle.std.proofs.lemmas.List.{drop_all}
use Rattle.vx_base.proofs.Lists.{left-from}
use Rattle.vx_election_model.specs.declared.election.Election.{Election}
use Rattle.vx_rules.specs.declared.marks.SheetMarks.{SheetMarks}
use Rattle.vx_events.specs.declared.event.Event.{Event}
use Rattle.vx_events.specs.declared.key.Key.{Key}
use Rattle.vx_events.specs.declared.event.Event.TheVariants.{Add, Claim, Release, Decide}
use Rattle.vx_center.specs.States.{is_add}
use Rattle.vx_center.specs.Sheets.{Added, added_by, added_from, sheets_in}
use Rattle.vx_command_queue.specs.Queue.{queue_lines, sheet_lines}
use Rattle.vx_command_queue.specs.Walk.{GotLines, IsNextFrom, IsSheetAt, IsUpTo}
use Rattle.vx_command_queue.proofs.Lined.{lines_are, lines_more}

nothing_left : {X : Type 0} (i : ℕ) (x : X) (rest : List X) → drop i [] ≡ x ∷ rest → ⊥
nothing_left zero x rest is = cc
nothing_left (suc i) x rest is = cc

-- and what begins it stands there
pub stands_there : {X : Type 0} (xs : List X) (i : ℕ) (x : X) (rest : List X) → drop i xs ≡ x ∷ rest → (slice_get xs i ≡ Some x) × (drop (suc i) xs ≡ rest)
stands_there [] i x rest is = absurd (nothing_left i x rest is)
stands_there (y ∷ xs) zero x rest is = (ap Some cc, cc)
stands_there (y ∷ xs) (suc i) x rest is = stands_there xs i x rest is

-- an event that adds no sheet
adds_none : (index : ℕ) (event : Event) → is_add event ≡ false → added_by index event ≡ []
adds_none index (Add key sheet) none = absurd cc
adds_none index (Claim station key) none = refl
adds_none index (Release station key) none = refl
adds_none index (Decide station key contest decision) none = refl

module _ (election : Election) (kept : List Event) (index place : ℕ) (text : List ℕ) (count : ℕ) (next : Option (ℕ × ℕ)) (up_to : IsUpTo election kept index place text count next) where
  pub none_more : (event : Event) → slice_get kept index ≡ Some event → is_add event ≡ false → IsUpTo election kept (index + 1) place text count next
  none_more event there none = record {
    below = omega (arith, up_to.below);
    left =
        up_to.left ∙ ap (added_from index) (left-from kept index event there)
        ∙ ap (λ (some : List Added). some ++ added_from (index + 1) (drop (index + 1) kept)) (adds_none index event none);
    lines = up_to.lines;
    next_is = up_to.next_is;
  }

  module _ (key : Key) (sheet : SheetMarks) (there : slice_get kept index ≡ Some (Add key sheet)) where
    begins : drop place (sheets_in kept) ≡ record { at = index; key = key; sheet = sheet } ∷ added_from (index + 1) (drop (index + 1) kept)
    begins = up_to.left ∙ ap (added_from index) (left-from kept index (Add key sheet) there)

    added_there : slice_get (sheets_in kept) place ≡ Some (record { at = index; key = key; sheet = sheet })
    added_there = (stands_there (sheets_in kept) place (record { at = index; key = key; sheet = sheet }) (added_from (index + 1) (drop (index + 1) kept)) begins).0

    pub sheet_there : IsSheetAt kept place key sheet
    sheet_there = record { at = index; there = added_there }

    pub one_more : (text_now : List ℕ) (count_now : ℕ) (next_now : Option (ℕ × ℕ)) → GotLines (sheet_lines election kept (record { at = index; key = key; sheet = sheet })) text text_now count count_now → IsNextFrom election kept (place + 1) 0 next_now → IsUpTo election kept (index + 1) (place + 1) text_now count_now next_now
    one_more text_now count_now next_now got is_next = record {
      below = omega (arith, up_to.below);
      left =
          ap (λ (n : ℕ). drop n (sheets_in kept)) (add-one place)
          ∙ (stands_there (sheets_in kept) place (record { at = index; key = key; sheet = sheet }) (added_from (index + 1) (drop (index + 1) kept)) begins).1;
      lines = lines_more (sheet_lines election kept) (sheets_in kept) place (record { at = index; key = key; sheet = sheet }) [] text text_now 0 count count_now added_there up_to.lines got;
      next_is = is_next;
    }

-- all events were walked over
take_whole : {X : Type 0} (xs : List X) (n : ℕ) → drop n xs ≡ [] → take n xs ≡ xs
take_whole [] zero none = refl
take_whole [] (suc n) none = refl
take_whole (x ∷ xs) zero none = absurd cc
take_whole {X} (x ∷ xs) (suc n) none = ap (λ (some : List X). x ∷ some) (take_whole xs n none)

pub all_walked : (election : Election) (kept : List Event) (index place : ℕ) (text : List ℕ) (count : ℕ) (next : Option (ℕ × ℕ)) → IsUpTo election kept index place text count next → length kept ≤ index → GotLines (queue_lines election kept) [] text 0 count
all_walked election kept index place text count next up_to past =
    let none : drop place (sheets_in kept) ≡ [] = up_to.left ∙ ap (added_from index) (drop_all index kept past) in
    lines_are (flat_map (sheet_lines election kept) (take place (sheets_in kept))) (queue_lines election kept) [] text 0 count (ap (flat_map (sheet_lines election kept)) (take_whole (sheets_in kept) place none)) up_to.lines
