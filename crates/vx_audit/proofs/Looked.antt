-- The pairs of a record, by the contests that are looked at.
use Rattle.std.proofs.Common.{◌≡◌, ◌⊎◌, inl, inr, ℕ, ◌<◌, ◌≤◌, ◌^◌, Bool, true, false, ◌==◌, ◌||◌, List, [], ◌∷◌, length, Some, None, refl, ap, ap₂, sym, subst, ◌∙◌, arith, append-nil}
use Rattle.std.specs.Prelude.{slice_get, Contains}
use Rattle.std.specs.List.{find, flat_map, list_any, AllByRecursion}
use Rattle.std.specs.Ordering.{nat_cmp}
use Rattle.std.specs.declared.cmp.Ordering.TheVariants.{Less}
use Rattle.std.proofs.lemmas.Bool.{false≢true}
use Rattle.std.proofs.lemmas.Bool.Decides.{nat_tests}
use Rattle.std.proofs.lemmas.List.Elements.{All-contains, All-from_recursion}
use Rattle.std.proofs.lemmas.Option.{slice_get_past, slice_get_within}
use Rattle.vx_base.proofs.Numbers.{equal-yes, equal-from_yes}
use Rattle.vx_tally.specs.declared.report.CvrRecord.{CvrRecord}
use Rattle.vx_tally.specs.declared.report.RecordContest.{RecordContest}
use Rattle.vx_tally.specs.declared.report.ReportContest.{ReportContest}
use Rattle.vx_audit.specs.declared.hand.HandLine.{HandLine}
use Rattle.vx_audit.specs.Hand.{is_for}
use Rattle.vx_audit.specs.Pairs.{Pair, pair_of, pair_at, pairs_at_place, pairs_if, pairs_of}
use Rattle.vx_audit.specs.Places.{AreLookedAt, is_looked_at}
use Rattle.vx_audit.proofs.Filters.{Rises, each_passes, rises_filter, rises-sorted, at_most_one, none_filtered}
use Rattle.vx_audit.proofs.Sparse.{at_place, walk}

above : (x y : ℕ) → nat_cmp x y ≡ Less → x < y
above x y less = grind (arith, nat_tests)

pub none-found : {X : Type 0} (p : X → Bool) (xs : List X) → list_any p xs ≡ false → find p xs ≡ None
none-found p [] e = refl
none-found p (x ∷ xs) e = by (p x) refl e (none-found p xs)
  where
    by : (b : Bool) → p x ≡ b → (b || list_any p xs) ≡ false → (list_any p xs ≡ false → find p xs ≡ None) → find p (x ∷ xs) ≡ None
    by true is f rest = absurd cc
    by false is f rest = rw is (rest f)

or-left-none : (b c : Bool) → (b || c) ≡ false → b ≡ false
or-left-none true c e = e
or-left-none false c e = refl

or-right-none : (b c : Bool) → (b || c) ≡ false → c ≡ false
or-right-none true c e = absurd cc
or-right-none false c e = e

module _ (contests : List ReportContest) (lines : List HandLine) (at : ℕ) (one : CvrRecord) (places : List ℕ) (looked : AreLookedAt lines at one places)
    (few : length contests ≤ 1000000) where
  abbrev give : ℕ → List Pair
  give = pairs_at_place contests lines at one

  abbrev here : ℕ → List ℕ
  here place = at_place (λ (k : ℕ). k) give place places

  up : Rises (λ (x y : ℕ). x < y) places
  up = rises-sorted nat_cmp (λ (x y : ℕ). x < y) above places looked.ordered

  once : (place : ℕ) → Rises (λ (x y : ℕ). ⊥) (here place)
  once place =
      rises_filter (λ (k : ℕ). place == k) (λ (x y : ℕ). x < y) (λ (x y : ℕ). ⊥)
      (λ x y at there lt. omega (arith, equal-from_yes place x at, equal-from_yes place y there)) places up

  absent : (place : ℕ) → here place ≡ [] → Contains places place → ⊥
  absent place empty has =
      let differs = All-contains (λ (k : ℕ). (place == k) ≡ false) places place
      (All-from_recursion (λ (k : ℕ). (place == k) ≡ false) places (none_filtered (λ (k : ℕ). place == k) places empty)) has in
      false≢true (sym differs ∙ equal-yes place place refl)

  not-looked : (place : ℕ) → place < 2 ^ 32 → here place ≡ [] → is_looked_at lines at one place ≡ false
  not-looked place small empty = by (is_looked_at lines at one place) refl
    where
      by : (b : Bool) → is_looked_at lines at one place ≡ b → is_looked_at lines at one place ≡ false
      by true e = absurd (absent place empty (looked.has place small e))
      by false e = e

  at-contest : (place : ℕ) (contest : ReportContest) → slice_get contests place ≡ Some contest
      → flat_map give (here place) ≡ pair_at lines at one place contest
  at-contest place contest is = by (at_most_one (here place) (once place))
    where
      small : place < 2 ^ 32
      small = omega (arith, slice_get_within contests place contest is, few)

      by : (here place ≡ []) ⊎ ((k : ℕ) × (here place ≡ k ∷ [])) → flat_map give (here place) ≡ pair_at lines at one place contest
      by (inl none) =
          let unseen = not-looked place small none in
          let uncounted = none-found (λ (counted : RecordContest). place == counted.contest) one.contests
          (or-left-none (list_any (λ (counted : RecordContest). place == counted.contest) one.contests) _ unseen) in
          let unread = none-found (is_for at place) lines
          (or-right-none (list_any (λ (counted : RecordContest). place == counted.contest) one.contests) _ unseen) in
          ap (flat_map give) none ∙ sym (ap₂ (λ counted line. pair_of one contest counted line) uncounted unread)
      by (inr (k, alone)) =
          let passes = subst (AllByRecursion (λ (x : ℕ). (place == x) ≡ true)) alone (each_passes (λ (x : ℕ). place == x) places) in
          ap (flat_map give) alone ∙ append-nil (give k) ∙ ap give (sym (equal-from_yes place k passes.0))
          ∙ ap (pairs_if lines at one place) is

  pub all-looked : flat_map give places ≡ pairs_of contests lines at one
  unfolding pairs_of
  all-looked =
      walk (λ (k : ℕ). k) give (pair_at lines at one) (length contests) places
      (rises-sorted nat_cmp (λ (x y : ℕ). x ≤ y) (λ x y less. omega (arith, above x y less)) places looked.ordered)
      (past places) contests refl at-contest
    where
      past : (ks : List ℕ) → AllByRecursion (λ k. length contests ≤ k → give k ≡ []) ks
      past [] = tt
      past (k ∷ ks) = (λ le. ap (pairs_if lines at one k) (slice_get_past contests k le), past ks)
