-- The rows of an export in order are one list, which the definition makes.
use Rattle.std.proofs.Common.{◌≡◌, ℕ, suc, ◌+◌, cond, Bool, true, false, List, [], ◌∷◌, map, refl, sym, ap, ap₂, subst, ◌∙◌, arith}
use Rattle.std.specs.Prelude.{All, IsPermutation, IsSortedByKey, nat_lt, ◌==◌, Option, None, Some, slice_get}
use Rattle.std.specs.List.{sum_by}
use Rattle.std.specs.Cmp.{IsStrictWeakOrder, IsTotalOrder}
use Rattle.std.specs.declared.cmp.Ordering.{Ordering}
use Rattle.std.specs.declared.cmp.Ordering.TheVariants.{Less, Equal, Greater}
use Rattle.std.specs.Ordering.{is_lt, match_ordering, nat_cmp, ordering_then, ordering_reverse}
use Rattle.std.specs.Cmp.Lexicographic.{slice_cmp}
use Rattle.std.specs.Ordering.{is_eq}
use Rattle.std.proofs.lemmas.Bool.{true≢false, false≢true}
use Rattle.std.proofs.lemmas.Map.Text.{is_eq-slice_cmp}
use Rattle.std.proofs.lemmas.Slice.Eq.{bytes_eq-Decides}
use Rattle.vx_base.proofs.Numbers.{equal-from_yes}
use Rattle.std.proofs.lemmas.Cmp.{then_total, on_total, nat_cmp_total, nat_list_cmp_total}
use Rattle.std.proofs.lemmas.List.Elements.{All-head, All-tail, All-cons, All-nil}
use Rattle.std.proofs.lemmas.List.Sorted.{ranks_by, All-permutation, sum_by-IsPermutation}
use Rattle.std.proofs.lemmas.List.Sums.{sum_by-cons}
use Rattle.std.proofs.lemmas.Option.{slice_get_within}
use Rattle.vx_base.proofs.Lists.{All-always, All-flat_map}
use Rattle.vx_election_model.specs.declared.contest.Contest.{Contest}
use Rattle.vx_election_model.specs.declared.election.Election.{Election}
use Rattle.vx_rules.specs.declared.marks.ContestMarks.{ContestMarks}
use Rattle.vx_rules.specs.Reasons.{is_blank_sheet}
use Rattle.vx_events.specs.declared.event.Event.{Event}
use Rattle.vx_events.specs.declared.key.Key.{Key}
use Rattle.vx_center.specs.declared.rows.ExportSheet.{ExportSheet}
use Rattle.vx_center.specs.declared.rows.Final.{Final}
use Rattle.vx_center.specs.declared.decided.Decided.{Decided}
use Rattle.vx_center.specs.Decisions.{decided_of, decisions_on}
use Rattle.vx_center.specs.Waiting.{exports_by}
use Rattle.vx_center.specs.Exports.{AreExportRows, final_if_exported, final_in, final_of, key_order, row_of}
use Rattle.vx_center.specs.Histories.{IsHistory}
use Rattle.vx_center.specs.Laws.{SheetsHaveOwnKeys}
use Rattle.vx_center.specs.Sheets.{Added, sheets_in}
use Rattle.vx_cvr.specs.Report.{HasItsContests, IsOfElection}
use Rattle.vx_cvr.specs.Rows.{in_order, placed, rows_of}
use Rattle.vx_cvr.proofs.Order as order

abbrev pub before : ExportSheet → ExportSheet → Bool
before one other = is_lt (key_order one.key other.key)

key_order-total : IsTotalOrder key_order
key_order-total = then_total (on_total (λ (key : Key). key.batch) nat_list_cmp_total) (on_total (λ (key : Key). key.number) nat_cmp_total)

pub ranks : IsStrictWeakOrder before
ranks = ranks_by key_order-total (λ (row : ExportSheet). row.key)

-- what a row placed among others adds to a sum, and what holds of all of them
placed-sum : (f : ExportSheet → ℕ) (row : ExportSheet) (rows : List ExportSheet) → sum_by f (placed row rows) ≡ f row + sum_by f rows
placed-sum f row [] = sum_by-cons f row []
placed-sum f row (other ∷ others) = by (key_order other.key row.key) (placed-sum f row others)
  where
    by : (o : Ordering) → sum_by f (placed row others) ≡ f row + sum_by f others
        → sum_by f (match_ordering o (other ∷ placed row others) (row ∷ other ∷ others) (row ∷ other ∷ others)) ≡ f row + sum_by f (other ∷ others)
    by Less rest = omega (arith, rest, sum_by-cons f other (placed row others), sum_by-cons f other others)
    by Equal rest = sum_by-cons f row (other ∷ others)
    by Greater rest = sum_by-cons f row (other ∷ others)

in_order-sum : (f : ExportSheet → ℕ) (rows : List ExportSheet) → sum_by f (in_order rows) ≡ sum_by f rows
in_order-sum f [] = refl
in_order-sum f (row ∷ rows) =
    omega (arith, placed-sum f row (in_order rows), in_order-sum f rows, sum_by-cons f row rows)

placed-all : (P : ExportSheet → Type 0) (row : ExportSheet) (rows : List ExportSheet) → P row → All P rows → All P (placed row rows)
placed-all P row [] own all = All-cons P row [] own all
placed-all P row (other ∷ others) own all =
    by (key_order other.key row.key) (placed-all P row others own (All-tail P other others all))
  where
    by : (o : Ordering) → All P (placed row others)
        → All P (match_ordering o (other ∷ placed row others) (row ∷ other ∷ others) (row ∷ other ∷ others))
    by Less rest = All-cons P other (placed row others) (All-head P other others all) rest
    by Equal rest = All-cons P row (other ∷ others) own all
    by Greater rest = All-cons P row (other ∷ others) own all

in_order-all : (P : ExportSheet → Type 0) (rows : List ExportSheet) → All P rows → All P (in_order rows)
in_order-all P [] all = all
in_order-all P (row ∷ rows) all = placed-all P row (in_order rows) (All-head P row rows all) (in_order-all P rows (All-tail P row rows all))

-- no row of those behind another one is before a third that isn't
behind : (row other : ExportSheet) (others : List ExportSheet) → before other row ≡ false
    → All (λ y. before y other ≡ false) others → All (λ y. before y row ≡ false) others
behind row other [] not_before none = All-nil (λ y. before y row ≡ false)
behind row other (y ∷ others) not_before none =
    All-cons (λ y. before y row ≡ false) y others
    (ranks.chain y other row (All-head (λ y. before y other ≡ false) y others none) not_before)
    (behind row other others not_before (All-tail (λ y. before y other ≡ false) y others none))

placed-ascends : (row : ExportSheet) (rows : List ExportSheet) → order.Ascends before ranks rows → order.Ascends before ranks (placed row rows)
placed-ascends row [] up = (All-nil (λ y. before y row ≡ false), tt)
placed-ascends row (other ∷ others) up = by (key_order other.key row.key) refl (placed-ascends row others up.1)
  where
    first : before other row ≡ false → order.Ascends before ranks (row ∷ other ∷ others)
    first not_before = (All-cons (λ y. before y row ≡ false) other others not_before (behind row other others not_before up.0), up)

    by : (o : Ordering) → key_order other.key row.key ≡ o → order.Ascends before ranks (placed row others)
        → order.Ascends before ranks (match_ordering o (other ∷ placed row others) (row ∷ other ∷ others) (row ∷ other ∷ others))
    by Less is rest = (placed-all (λ y. before y other ≡ false) row others (ranks.one_way other row (ap is_lt is)) up.0, rest)
    by Equal is rest = first (ap is_lt is)
    by Greater is rest = first (ap is_lt is)

pub in_order-ascends : (rows : List ExportSheet) → order.Ascends before ranks (in_order rows)
in_order-ascends [] = tt
in_order-ascends (row ∷ rows) = placed-ascends row (in_order rows) (in_order-ascends rows)

-- keys neither of which is before the other are the same
abbrev is_same : Ordering → Bool
is_same Less = false
is_same Equal = true
is_same Greater = false

level : (o : Ordering) → is_lt o ≡ false → is_lt (ordering_reverse o) ≡ false → o ≡ Equal
level Less one other = absurd (true≢false one)
level Equal one other = refl
level Greater one other = absurd (true≢false other)

then_left : (one other : Ordering) → ordering_then one other ≡ Equal → one ≡ Equal
then_left Less other is = absurd (false≢true (ap is_same is))
then_left Equal other is = refl
then_left Greater other is = absurd (false≢true (ap is_same is))

then_right : (one other : Ordering) → ordering_then one other ≡ Equal → other ≡ Equal
then_right Less other is = absurd (false≢true (ap is_same is))
then_right Equal other is = is
then_right Greater other is = absurd (false≢true (ap is_same is))

same_number : (m n : ℕ) → nat_cmp m n ≡ Equal → m ≡ n
same_number m n is = by (nat_lt m n) (m == n) refl is
  where
    by : (a b : Bool) → (m == n) ≡ b → cond a Less (cond b Equal Greater) ≡ Equal → m ≡ n
    by true b equal is = absurd (false≢true (ap is_same is))
    by false true equal is = equal-from_yes m n equal
    by false false equal is = absurd (false≢true (ap is_same is))

keys_tied : (one other : Key) → is_lt (key_order one other) ≡ false → is_lt (key_order other one) ≡ false → one ≡ other
keys_tied one other first second =
    let turned : key_order other one ≡ ordering_reverse (key_order one other) = key_order-total.antisymm other one in
    let equal : key_order one other ≡ Equal = level (key_order one other) first (sym (ap is_lt turned) ∙ second) in
    let batches : slice_cmp nat_cmp one.batch other.batch ≡ Equal = then_left (slice_cmp nat_cmp one.batch other.batch) (nat_cmp one.number other.number) equal in
    let numbers : nat_cmp one.number other.number ≡ Equal = then_right (slice_cmp nat_cmp one.batch other.batch) (nat_cmp one.number other.number) equal in
    let same_batch : one.batch ≡ other.batch =
    (bytes_eq-Decides one.batch other.batch).0 (sym (is_eq-slice_cmp one.batch other.batch) ∙ ap is_eq batches) in
    ap₂ (λ (batch : List ℕ) (number : ℕ). record { batch = batch; number = number }) same_batch (same_number one.number other.number numbers)

-- rows of sheets of a list
record IsRowOf (election : Election) (kept : List Event) (row : ExportSheet) : Type 0 where
  added : Added
  place : ℕ
  there : slice_get (sheets_in kept) place ≡ Some added
  is : row ≡ row_of election kept added

all_rows : (election : Election) (kept : List Event) (sheets : List Added) (from : ℕ) → ((place : ℕ) (added : Added) → slice_get sheets place ≡ Some added → slice_get (sheets_in kept) (from + place) ≡ Some added)
    → All (IsRowOf election kept) (map (row_of election kept) sheets)
all_rows election kept [] from there = All-nil (IsRowOf election kept)
all_rows election kept (added ∷ sheets) from there =
    All-cons (IsRowOf election kept) (row_of election kept added) (map (row_of election kept) sheets)
    (record { added = added; place = from + 0; there = there 0 added refl; is = refl })
    (all_rows election kept sheets (from + 1)
    (λ place other further.
    let next : from + suc place ≡ from + 1 + place = omega arith in
    ap (slice_get (sheets_in kept)) (sym next) ∙ there (suc place) other further))

rows_tied : SheetsHaveOwnKeys → (election : Election) (kept : List Event) → IsHistory election kept → (one other : ExportSheet)
    → IsRowOf election kept one → IsRowOf election kept other → before one other ≡ false → before other one ≡ false → one ≡ other
rows_tied keys election kept history one other first second not_before not_behind =
    let key : one.key ≡ other.key = keys_tied one.key other.key not_before not_behind in
    let same : first.added.key ≡ second.added.key =
    sym (ap (λ (row : ExportSheet). row.key) first.is) ∙ key ∙ ap (λ (row : ExportSheet). row.key) second.is in
    let sheet : first.added ≡ second.added = keys election kept first.place second.place first.added second.added history first.there second.there same in
    first.is ∙ ap (row_of election kept) sheet ∙ sym second.is

-- the rows that a center exports are those that are defined
pub rows_are : SheetsHaveOwnKeys → (election : Election) (kept : List Event) (rows : List ExportSheet) → IsHistory election kept → AreExportRows election kept rows → rows ≡ rows_of election kept
rows_are keys election kept rows history exported =
    let made : List ExportSheet = map (row_of election kept) (sheets_in kept) in
    let all : All (IsRowOf election kept) made = all_rows election kept (sheets_in kept) 0
    (λ place added there. let same : 0 + place ≡ place = omega arith in ap (slice_get (sheets_in kept)) same ∙ there) in
    order.unique before ranks (IsRowOf election kept) (rows_tied keys election kept history) rows (in_order made)
    (order.ascends before ranks rows exported.sorted) (in_order-ascends made)
    (All-permutation (IsRowOf election kept) made rows exported.all all) (in_order-all (IsRowOf election kept) made all)
    (λ f. sum_by-IsPermutation f made rows exported.all ∙ sym (in_order-sum f made))

-- each exported contest is one of the election's
finals_there : (election : Election) (blank : Bool) (decided : List Decided) (marks : ContestMarks) → All (IsOfElection election) (final_if_exported election blank decided marks)
finals_there election blank decided marks = by (exports_by election blank decided marks) (slice_get election.contests marks.contest) refl
  where
    by : (b : Bool) (found : Option Contest) → slice_get election.contests marks.contest ≡ found
        → All (IsOfElection election) (cond b (final_in marks (decisions_on marks.contest decided) found) [])
    by true None is = All-nil (IsOfElection election)
    by true (Some contest) is =
        All-cons (IsOfElection election) (final_of contest marks (decisions_on marks.contest decided)) []
        (slice_get_within election.contests marks.contest contest is) (All-nil (IsOfElection election))
    by false found is = All-nil (IsOfElection election)

pub row_there : (election : Election) (kept : List Event) (added : Added) → HasItsContests election (row_of election kept added)
row_there election kept added =
    let make : ContestMarks → List Final = final_if_exported election (is_blank_sheet added.sheet) (decided_of kept added.key) in
    All-flat_map (IsOfElection election) make added.sheet.contests
    (All-always (λ (marks : ContestMarks). All (IsOfElection election) (make marks)) added.sheet.contests (finals_there election (is_blank_sheet added.sheet) (decided_of kept added.key)))

rows_there : (election : Election) (kept : List Event) (sheets : List Added) → All (HasItsContests election) (map (row_of election kept) sheets)
rows_there election kept [] = All-nil (HasItsContests election)
rows_there election kept (added ∷ sheets) =
    All-cons (HasItsContests election) (row_of election kept added) (map (row_of election kept) sheets) (row_there election kept added) (rows_there election kept sheets)

pub contests_there : (election : Election) (kept : List Event) (rows : List ExportSheet) → AreExportRows election kept rows → All (HasItsContests election) rows
contests_there election kept rows exported =
    All-permutation (HasItsContests election) (map (row_of election kept) (sheets_in kept)) rows exported.all (rows_there election kept (sheets_in kept))
