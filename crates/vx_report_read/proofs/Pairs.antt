-- What holds of each two elements of a list, and that the sheets of a history have names of their own.
use Rattle.std.proofs.Common.{◌≡◌, ℕ, zero, suc, ◌+◌, ◌<◌, ◌≤◌, false, List, [], ◌∷◌, map, refl, ap, subst, arith}
use Rattle.std.specs.Prelude.{⊤, Some, slice_get, bytes_eq}
use Rattle.std.specs.List.{AllByRecursion, IsDistinct}
use Rattle.std.specs.Ordering.{match_ordering}
use Rattle.std.specs.declared.cmp.Ordering.{Ordering}
use Rattle.std.specs.declared.cmp.Ordering.TheVariants.{Less, Equal, Greater}
use Rattle.std.proofs.lemmas.Option.{same_Some}
use Rattle.vx_election_model.specs.declared.election.Election.{Election}
use Rattle.vx_events.specs.declared.event.Event.{Event}
use Rattle.vx_events.specs.declared.event.Event.TheVariants.{Add, Claim, Release, Decide}
use Rattle.vx_center.specs.declared.rows.ExportSheet.{ExportSheet}
use Rattle.vx_center.specs.Exports.{key_order, row_of}
use Rattle.vx_center.specs.Histories.{IsHistory}
use Rattle.vx_center.specs.Laws.{SheetsHaveOwnKeys}
use Rattle.vx_center.specs.Sheets.{Added, added_by, added_from, sheets_in}
use Rattle.vx_cvr.specs.Names.{sheet_name}
use Rattle.vx_cvr.specs.Rows.{placed, in_order, rows_of}
use Rattle.vx_report_read.proofs.Each.{each-weaker, each-append}
use Rattle.vx_report_read.proofs.Kept.{IsAdded, sheets-are}
use Rattle.vx_report_read.proofs.Names.{sheet-same}
use Rattle.vx_report_read.proofs.Places.{bytes-other, turned}
use Rattle.vx_report_read.proofs.RowsOf.{each-placed, each-in_order}

module _ {X : Type 0} where
  -- each element to each further one
  abbrev Pairs : (X → X → Type 0) → List X → Type 0
  Pairs R [] = ⊤
  Pairs R (x ∷ xs) = AllByRecursion (R x) xs × Pairs R xs

  got : (P : X → Type 0) (xs : List X) (i : ℕ) (x : X) → AllByRecursion P xs → slice_get xs i ≡ Some x → P x
  got P [] i x all there = absurd cc
  got P (y ∷ xs) zero x all there = subst P (same_Some y x there) all.0
  got P (y ∷ xs) (suc i) x all there = got P xs i x all.1 there

  pairs-got : (R : X → X → Type 0) (xs : List X) (i j : ℕ) (x y : X) → Pairs R xs → i < j → slice_get xs i ≡ Some x → slice_get xs j ≡ Some y → R x y
  pairs-got R [] i j x y pairs below first second = absurd cc
  pairs-got R (z ∷ xs) i zero x y pairs below first second = absurd (omega (arith, below))
  pairs-got R (z ∷ xs) zero (suc j) x y pairs below first second = subst (λ (one : X). R one y) (same_Some z x first) (got (R z) xs j y pairs.0 second)
  pairs-got R (z ∷ xs) (suc i) (suc j) x y pairs below first second = pairs-got R xs i j x y pairs.1 (omega (arith, below)) first second

  all-at : (P : X → Type 0) (xs : List X) → ((i : ℕ) (x : X) → slice_get xs i ≡ Some x → P x) → AllByRecursion P xs
  all-at P [] at = tt
  all-at P (x ∷ xs) at = (at 0 x refl, all-at P xs (λ i y there. at (suc i) y there))

  pairs-at : (R : X → X → Type 0) (xs : List X) → ((i j : ℕ) (x y : X) → i < j → slice_get xs i ≡ Some x → slice_get xs j ≡ Some y → R x y) → Pairs R xs
  pairs-at R [] at = tt
  pairs-at R (x ∷ xs) at = (
    all-at (R x) xs (λ j y there. at 0 (suc j) x y (omega arith) refl there),
    pairs-at R xs (λ i j y z below first second. at (suc i) (suc j) y z (omega (arith, below)) first second),
  )

module _ {X Y : Type 0} (R : Y → Y → Type 0) (f : X → Y) where
  each-mapped : (x : X) (xs : List X) → AllByRecursion (λ (y : X). R (f x) (f y)) xs → AllByRecursion (R (f x)) (map f xs)
  each-mapped x [] all = tt
  each-mapped x (y ∷ xs) all = (all.0, each-mapped x xs all.1)

  pairs-map : (xs : List X) → Pairs (λ (x y : X). R (f x) (f y)) xs → Pairs R (map f xs)
  pairs-map [] pairs = tt
  pairs-map (x ∷ xs) pairs = (each-mapped x xs pairs.0, pairs-map xs pairs.1)

-- two rows whose sheets have different names
abbrev AreOthers : ExportSheet → ExportSheet → Type 0
AreOthers one other = bytes_eq (sheet_name one.key) (sheet_name other.key) ≡ false

pairs-placed : (row : ExportSheet) (rows : List ExportSheet) → AllByRecursion (AreOthers row) rows → Pairs AreOthers rows → Pairs AreOthers (placed row rows)
pairs-placed row [] all pairs = (tt, tt)
pairs-placed row (other ∷ others) all pairs = by (key_order other.key row.key) (pairs-placed row others all.1 pairs.1)
  where
    by : (o : Ordering) → Pairs AreOthers (placed row others)
        → Pairs AreOthers (match_ordering o (other ∷ placed row others) (row ∷ other ∷ others) (row ∷ other ∷ others))
    by Less rest = (each-placed (AreOthers other) row others (turned (sheet_name row.key) (sheet_name other.key) all.0) pairs.0, rest)
    by Equal rest = (all, pairs)
    by Greater rest = (all, pairs)

pairs-in_order : (rows : List ExportSheet) → Pairs AreOthers rows → Pairs AreOthers (in_order rows)
pairs-in_order [] pairs = tt
pairs-in_order (row ∷ rows) pairs = pairs-placed row (in_order rows) (each-in_order (AreOthers row) rows pairs.0) (pairs-in_order rows pairs.1)

-- the places of added sheets ascend
ats-from : (place : ℕ) (events : List Event) → AllByRecursion (λ (one : Added). place ≤ one.at) (added_from place events)
ats-from place [] = tt
ats-from place (event ∷ events) =
    each-append (λ (one : Added). place ≤ one.at) (added_by place event) (added_from (place + 1) events) (by event)
    (each-weaker (λ (one : Added). place + 1 ≤ one.at) (λ (one : Added). place ≤ one.at) (added_from (place + 1) events) (λ one is. omega (arith, is))
    (ats-from (place + 1) events))
  where
    by : (event : Event) → AllByRecursion (λ (one : Added). place ≤ one.at) (added_by place event)
    by (Add key sheet) = (omega arith, tt)
    by (Claim station key) = tt
    by (Release station key) = tt
    by (Decide station key contest decision) = tt

ats-ascend : (place : ℕ) (events : List Event) → Pairs (λ (one other : Added). one.at < other.at) (added_from place events)
ats-ascend place [] = tt
ats-ascend place (Add key sheet ∷ events) = (
  each-weaker (λ (other : Added). place + 1 ≤ other.at) (λ (other : Added). place < other.at) (added_from (place + 1) events) (λ one is. omega (arith, is))
      (ats-from (place + 1) events),
  ats-ascend (place + 1) events,
)
ats-ascend place (Claim station key ∷ events) = ats-ascend (place + 1) events
ats-ascend place (Release station key ∷ events) = ats-ascend (place + 1) events
ats-ascend place (Decide station key contest decision ∷ events) = ats-ascend (place + 1) events

sheets-others : (election : Election) (kept : List Event) → SheetsHaveOwnKeys → IsHistory election kept
    → Pairs (λ (one other : Added). bytes_eq (sheet_name one.key) (sheet_name other.key) ≡ false) (sheets_in kept)
sheets-others election kept law history =
    pairs-at (λ (one other : Added). bytes_eq (sheet_name one.key) (sheet_name other.key) ≡ false) (sheets_in kept)
    (λ i j one other below first second. bytes-other (sheet_name one.key) (sheet_name other.key) (λ same. clash i j one other below first second same))
  where
    clash : (i j : ℕ) (one other : Added) → i < j → slice_get (sheets_in kept) i ≡ Some one → slice_get (sheets_in kept) j ≡ Some other
        → sheet_name one.key ≡ sheet_name other.key → ⊥
    clash i j one other below first second same =
        let is = got (IsAdded election) (sheets_in kept) i one (sheets-are election kept history) first in
        let fits = got (IsAdded election) (sheets_in kept) j other (sheets-are election kept history) second in
        let parts = sheet-same one.key other.key is.0 fits.0 same in
        let keys : one.key ≡ other.key = (λ k. record { batch = parts.0 k; number = parts.1 k }) in
        let ats : one.at ≡ other.at = ap (λ (added : Added). added.at) (law election kept i j one other history first second keys) in
        let lower : one.at < other.at = pairs-got (λ (one other : Added). one.at < other.at) (sheets_in kept) i j one other
        (ats-ascend 0 kept) below first second in
        omega (arith, ats, lower)

distinct-from : (rows : List ExportSheet) → Pairs AreOthers rows → IsDistinct bytes_eq (map (λ (row : ExportSheet). sheet_name row.key) rows)
unfolding IsDistinct
distinct-from [] pairs = tt
distinct-from (row ∷ rows) pairs = (all rows pairs.0, distinct-from rows pairs.1)
  where
    all : (others : List ExportSheet) → AllByRecursion (AreOthers row) others
        → AllByRecursion (λ (name : List ℕ). bytes_eq (sheet_name row.key) name ≡ false) (map (λ (row : ExportSheet). sheet_name row.key) others)
    all [] each = tt
    all (other ∷ others) each = (each.0, all others each.1)

-- no two rows have one name
pub rows-distinct : (election : Election) (kept : List Event) → SheetsHaveOwnKeys → IsHistory election kept
    → IsDistinct bytes_eq (map (λ (row : ExportSheet). sheet_name row.key) (rows_of election kept))
rows-distinct election kept law history =
    distinct-from (rows_of election kept)
    (pairs-in_order (map (row_of election kept) (sheets_in kept))
    (pairs-map AreOthers (row_of election kept) (sheets_in kept) (sheets-others election kept law history)))
