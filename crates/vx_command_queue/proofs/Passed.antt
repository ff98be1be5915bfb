-- What waits next while a walk passes the contests of the sheets.
use Rattle.std.proofs.Common.{◌≡◌, ◌<◌, ◌≤◌, ◌+◌, ◌⊎◌, inl, inr, ℕ, Bool, true, false, not, List, [], length, Option, Some, None, refl, sym, ap, subst, ◌∙◌, arith}
use Rattle.std.specs.Prelude.{slice_get}
use Rattle.std.proofs.lemmas.Option.{slice_get_past}
use Rattle.std.proofs.lemmas.Bool.{cases_lt}
use Rattle.vx_election_model.specs.declared.election.Election.{Election}
use Rattle.vx_rules.specs.declared.marks.ContestMarks.{ContestMarks}
use Rattle.vx_rules.specs.declared.marks.SheetMarks.{SheetMarks}
use Rattle.vx_events.specs.declared.event.Event.{Event}
use Rattle.vx_events.specs.declared.key.Key.{Key}
use Rattle.vx_center.specs.Decisions.{decided_of}
use Rattle.vx_center.specs.Waiting.{waits_at, waits_by, waits_on}
use Rattle.vx_rules.specs.Reasons.{is_blank_sheet}
use Rattle.vx_center.specs.Waiting.{exports_by}
use Rattle.vx_command_queue.specs.Queue.{wait_lines}
use Rattle.vx_command_queue.specs.Walk.{IsFrom, IsFirst, IsNextFrom, IsSheetAt}

-- whether a contest of the sheet waits
pub sheet_waits : (election : Election) (kept : List Event) (place : ℕ) (key : Key) (sheet : SheetMarks) (at : ℕ) → IsSheetAt kept place key sheet → waits_at election kept place at ≡ waits_by election sheet (decided_of kept key) (slice_get sheet.contests at)
sheet_waits election kept place key sheet at is = ap (waits_on election kept at) is.there

module _ (election : Election) (kept : List Event) (place at : ℕ) where
  not_at : (s c : ℕ) → IsFirst election kept place at (s, c) → (◌≡◌ {A = Option (ℕ × ℕ)} (Some (s, c)) (Some (place, at)) → ⊥) → (place < s) ⊎ ((place ≡ s) × (at ≤ c)) → waits_at election kept place at ≡ false
  not_at s c is other (inl less) = is.first place at (inr (refl, omega arith)) (inl less)
  not_at s c is other (inr (same, low)) = by (cases_lt at c)
    where
      by : (at < c) ⊎ (c ≤ at) → waits_at election kept place at ≡ false
      by (inl less) = is.first place at (inr (refl, omega arith)) (inr (same, less))
      by (inr more) =
          let equal : c ≡ at = omega arith in
          absurd (other (ap (λ (n : ℕ). let pair : Option (ℕ × ℕ) = Some (n, c) in pair) (sym same) ∙ ap (λ (n : ℕ). let pair : Option (ℕ × ℕ) = Some (place, n) in pair) equal))

  -- what isn't next doesn't wait
  pub not_next : (next : Option (ℕ × ℕ)) → IsNextFrom election kept place at next → (next ≡ Some (place, at) → ⊥) → waits_at election kept place at ≡ false
  not_next None none other = none.none place at (inr (refl, omega arith))
  not_next (Some (s, c)) is other = not_at s c is other is.reached

  -- behind the last contest of a sheet the next sheet comes
  from_next : (s c : ℕ) → IsFrom (place + 1) 0 s c → IsFrom place at s c
  from_next s c (inl less) = inl (omega arith)
  from_next s c (inr (same, low)) = inl (omega arith)

  sheet_ended : (s c : ℕ) → (waits_at election kept s c ≡ true) → ((c' : ℕ) → at ≤ c' → waits_at election kept place c' ≡ false) → (place < s) ⊎ ((place ≡ s) × (at ≤ c)) → IsFrom (place + 1) 0 s c
  sheet_ended s c waits none (inl less) = by (cases_lt (place + 1) s)
    where
      by : (place + 1 < s) ⊎ (s ≤ place + 1) → IsFrom (place + 1) 0 s c
      by (inl further) = inl further
      by (inr same) = inr (omega arith, omega arith)
  sheet_ended s c waits none (inr (same, low)) =
      let Waits : ℕ → Type 0 = λ n. waits_at election kept n c ≡ true in
      let never : true ≡ false = sym (subst Waits (sym same) waits) ∙ none c low in
      absurd cc

  pub next_sheet : (next : Option (ℕ × ℕ)) → ((c' : ℕ) → at ≤ c' → waits_at election kept place c' ≡ false) → IsNextFrom election kept place at next → IsNextFrom election kept (place + 1) 0 next
  next_sheet None none is = record { none = λ s c from. is.none s c (from_next s c from) }
  next_sheet (Some (s, c)) none is = record {
    reached = sheet_ended s c is.waits none is.reached;
    waits = is.waits;
    first = λ s' c' from before. is.first s' c' (from_next s' c' from) before;
  }

-- a sheet has no contest behind its last one
pub none_behind : (election : Election) (kept : List Event) (place : ℕ) (key : Key) (sheet : SheetMarks) (at : ℕ) → IsSheetAt kept place key sheet → length sheet.contests ≤ at → (c : ℕ) → at ≤ c → waits_at election kept place c ≡ false
none_behind election kept place key sheet at is past c low =
    sheet_waits election kept place key sheet c is
    ∙ ap (waits_by election sheet (decided_of kept key)) (slice_get_past sheet.contests c (omega arith))

-- a contest that doesn't wait has no line
exported : (b : Bool) → not b ≡ false → b ≡ true
exported true h = refl
exported false h = absurd cc

pub no_line : (election : Election) (kept : List Event) (place : ℕ) (key : Key) (sheet : SheetMarks) (at : ℕ) (marks : ContestMarks) → IsSheetAt kept place key sheet → slice_get sheet.contests at ≡ Some marks → waits_at election kept place at ≡ false → [] ≡ wait_lines election kept key sheet marks
no_line election kept place key sheet at marks is there quiet =
    let waits : waits_by election sheet (decided_of kept key) (Some marks) ≡ false = sym (sheet_waits election kept place key sheet at is ∙ ap (waits_by election sheet (decided_of kept key)) there) ∙ quiet in
    let out : exports_by election (is_blank_sheet sheet) (decided_of kept key) marks ≡ true = exported (exports_by election (is_blank_sheet sheet) (decided_of kept key) marks) waits in
    rw out refl
