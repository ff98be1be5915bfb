-- A contest that no event decides has no decision.
use Rattle.std.proofs.Common.{◌≡◌, ℕ, Bool, true, false, cond, List, [], ◌∷◌, ◌++◌, refl, sym, ap, ◌∙◌, arith}
use Rattle.std.specs.Prelude.{◌==◌, All}
use Rattle.std.proofs.lemmas.List.Elements.{All-tail}
use Rattle.vx_base.proofs.Numbers.{equal-from_yes}
use Rattle.vx_events.specs.declared.event.Event.{Event}
use Rattle.vx_events.specs.declared.event.Event.TheVariants.{Add, Claim, Release, Decide}
use Rattle.vx_events.specs.declared.key.Key.{Key}
use Rattle.vx_center.specs.Decisions.{decided_of, decisions_of, decisions_on}
use Rattle.vx_center.specs.Laws.{SameKeysAreEqual}
use Rattle.vx_center.specs.Sheets.{same_key}
use Rattle.vx_headline.specs.Undecided.{DecidesNot, UntouchedContestsAreUndecided}

module _ (equal_keys : SameKeysAreEqual) (key : Key) (contest : ℕ) where
  none-decided : (kept : List Event) → All (DecidesNot key contest) kept → decisions_of kept key contest ≡ []
  none-decided [] none = refl
  none-decided (Add other sheet ∷ kept) none = none-decided kept (All-tail (DecidesNot key contest) (Add other sheet) kept none)
  none-decided (Claim station other ∷ kept) none = none-decided kept (All-tail (DecidesNot key contest) (Claim station other) kept none)
  none-decided (Release station other ∷ kept) none = none-decided kept (All-tail (DecidesNot key contest) (Release station other) kept none)
  none-decided (Decide station other on decision ∷ kept) none =
      by (none 0 (Decide station other on decision) (omega arith))
      (none-decided kept (All-tail (DecidesNot key contest) (Decide station other on decision) kept none)) (same_key key other) refl (on == contest) refl
    where
      by : (other ≡ key → on ≡ contest → ⊥) → decisions_of kept key contest ≡ []
          → (same : Bool) → same_key key other ≡ same → (equal : Bool) → (on == contest) ≡ equal
          → decisions_on contest (cond same (record { contest = on; decision = decision } ∷ []) [] ++ decided_of kept key) ≡ []
      by own rest false is equal is_equal = rest
      by own rest true is false is_equal =
          ap (λ (b : Bool). cond b (decision ∷ []) [] ++ decisions_on contest (decided_of kept key)) is_equal ∙ rest
      by own rest true is true is_equal = absurd (own (sym (equal_keys key other is)) (equal-from_yes on contest is_equal))

pub untouched : SameKeysAreEqual → UntouchedContestsAreUndecided
untouched equal_keys election runs left kept key sheet place marks contest counted are_kept is_on is_contest none = record {
  counted = counted;
  are_kept = are_kept;
  place = place;
  is_on = is_on;
  is_contest = is_contest;
  undecided = none-decided equal_keys key marks.contest kept none;
}
