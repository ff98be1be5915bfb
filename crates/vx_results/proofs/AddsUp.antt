-- Summed over all units and kinds, the counts of a contest are those of the report.
use Rattle.std.proofs.Common.{◌≡◌, ℕ, zero, suc, ◌+◌, ◌<◌, ◌≤◌, Bool, true, false, cond, ◌&&◌, ◌==◌, List, [], ◌∷◌, length, map, refl, sym, ap, ◌∙◌, arith}
use Rattle.std.specs.Prelude.{filter, sum_by}
use Rattle.std.specs.List.{AllByRecursion, flat_map, range_with_len}
use Rattle.std.proofs.lemmas.List.Elements.{filter-append}
use Rattle.std.proofs.lemmas.List.Sorted.{sum_by-IsPermutation}
use Rattle.std.proofs.lemmas.List.Sums.{sum_by-cons, sum_by-append}
use Rattle.std.proofs.lemmas.Bool.Decides.{nat_tests}
use Rattle.vx_base.proofs.Numbers.{equal-from_yes}
use Rattle.vx_base.proofs.Ranges.{range-more}
use Rattle.vx_election_model.specs.declared.election.Election.{Election}
use Rattle.vx_election_model.specs.Valid.{IsValid}
use Rattle.vx_events.specs.declared.event.Event.{Event}
use Rattle.vx_center.specs.declared.rows.ExportSheet.{ExportSheet}
use Rattle.vx_center.specs.Exports.{row_of}
use Rattle.vx_center.specs.Histories.{IsHistory}
use Rattle.vx_center.specs.Sheets.{Added, sheets_in}
use Rattle.vx_cvr.specs.Laws.{RowsAreOfTheSheets}
use Rattle.vx_cvr.specs.Rows.{rows_of}
use Rattle.vx_tally.specs.declared.report.CvrRecord.{CvrRecord}
use Rattle.vx_tally.specs.declared.report.RecordContest.{RecordContest}
use Rattle.vx_tally.specs.Totals.{Row, is_for, over_of, record_rows, total_of, under_of}
use Rattle.vx_results.specs.declared.groups.Group.{Group}
use Rattle.vx_results.specs.Figures.{is_at, precinct_units, sheet_record}
use Rattle.vx_results.specs.Groups.{unit_groups}
use Rattle.vx_results.specs.Kinds.{kind_of}
use Rattle.vx_results.specs.Report.{record_of, unit_at}
use Rattle.vx_results.specs.Summary.{group_records}
use Rattle.vx_results.specs.SummaryLaws.{EmptySummary, SummaryAddsUp, all_groups, all_records}
use Rattle.vx_results.proofs.Each.{each-weaker}
use Rattle.vx_results.proofs.Fitting.{added-row}
use Rattle.vx_results.proofs.Kept.{IsAdded, sheets-are}
use Rattle.vx_results.proofs.Precincts.{PrecinctsAreThere}
use Rattle.vx_results.proofs.Seen.{kind_low}

-- ---- sums

sum-same : {X : Type 0} (f g : X → ℕ) (xs : List X) → AllByRecursion (λ (x : X). f x ≡ g x) xs → sum_by f xs ≡ sum_by g xs
sum-same f g [] same = refl
sum-same f g (x ∷ xs) same = omega (arith, sum_by-cons f x xs, sum_by-cons g x xs, same.0, sum-same f g xs same.1)

sum-all : {X : Type 0} (f g : X → ℕ) → ((x : X) → f x ≡ g x) → (xs : List X) → sum_by f xs ≡ sum_by g xs
sum-all f g same [] = refl
sum-all f g same (x ∷ xs) = omega (arith, sum_by-cons f x xs, sum_by-cons g x xs, same x, sum-all f g same xs)

sum-zero : {X : Type 0} (xs : List X) → sum_by (λ (x : X). 0) xs ≡ 0
sum-zero [] = refl
sum-zero {X = X} (x ∷ xs) = omega (arith, sum_by-cons (λ (y : X). 0) x xs, sum-zero xs)

sum-both : {X : Type 0} (f g : X → ℕ) (xs : List X) → sum_by (λ (x : X). f x + g x) xs ≡ sum_by f xs + sum_by g xs
sum-both f g [] = refl
sum-both {X = X} f g (x ∷ xs) =
    omega (arith, sum_by-cons (λ (y : X). f y + g y) x xs, sum_by-cons f x xs, sum_by-cons g x xs, sum-both f g xs)

sum-map : {X Y : Type 0} (f : Y → ℕ) (g : X → Y) (xs : List X) → sum_by f (map g xs) ≡ sum_by (λ (x : X). f (g x)) xs
sum-map f g [] = refl
sum-map {X = X} f g (x ∷ xs) = omega (arith, sum_by-cons f (g x) (map g xs), sum_by-cons (λ (y : X). f (g y)) x xs, sum-map f g xs)

sum-flat : {X Y : Type 0} (value : Y → ℕ) (f : X → List Y) (xs : List X) → sum_by value (flat_map f xs) ≡ sum_by (λ (x : X). sum_by value (f x)) xs
sum-flat value f [] = refl
sum-flat {X = X} value f (x ∷ xs) =
    omega (
      arith,
      sum_by-append value (f x) (flat_map f xs),
      sum_by-cons (λ (y : X). sum_by value (f y)) x xs,
      sum-flat value f xs,
    )

sum-chosen : {X : Type 0} (test : X → Bool) (value : X → ℕ) (xs : List X) → sum_by value (filter test xs) ≡ sum_by (λ (x : X). cond (test x) (value x) 0) xs
sum-chosen test value [] = refl
sum-chosen {X = X} test value (x ∷ xs) =
    omega (arith, by (test x), sum_by-cons (λ (y : X). cond (test y) (value y) 0) x xs, sum-chosen test value xs)
  where
    by : (b : Bool) → sum_by value (cond b (x ∷ filter test xs) (filter test xs)) ≡ cond b (value x) 0 + sum_by value (filter test xs)
    by true = omega (arith, sum_by-cons value x (filter test xs))
    by false = omega arith

-- first over one list and then over the other, or the other way round
sum-turned : {X Y : Type 0} (f : X → Y → ℕ) (xs : List X) (ys : List Y)
    → sum_by (λ (x : X). sum_by (f x) ys) xs ≡ sum_by (λ (y : Y). sum_by (λ (x : X). f x y) xs) ys
sum-turned {X = X} f xs [] = sum-zero xs
sum-turned {X = X} {Y = Y} f xs (y ∷ ys) =
    omega (
      arith,
      sum-all (λ (x : X). sum_by (f x) (y ∷ ys)) (λ (x : X). f x y + sum_by (f x) ys) (λ x. sum_by-cons (f x) y ys) xs,
      sum-both (λ (x : X). f x y) (λ (x : X). sum_by (f x) ys) xs,
      sum_by-cons (λ (z : Y). sum_by (λ (x : X). f x z) xs) y ys,
      sum-turned f xs ys,
    )

-- ---- one of a range

below-other : (x m : ℕ) → x < m + 1 → (m == x) ≡ false → x < m
below-other x m below e = grind (arith, nat_tests)

past-other : (x m : ℕ) → m < x → (m == x) ≡ false
past-other x m past = grind (arith, nat_tests)

one-past : (x value a n : ℕ) → a + n ≤ x → sum_by (λ (k : ℕ). cond (k == x) value 0) (range_with_len a n) ≡ 0
one-past x value a zero past = refl
one-past x value a (suc n) past =
    let on : suc n ≡ n + 1 = omega arith in
    let other : (a + n == x) ≡ false = past-other x (a + n) (omega (arith, past)) in
    let here : sum_by (λ (k : ℕ). cond (k == x) value 0) ((a + n) ∷ []) ≡ 0 =
    sum_by-cons (λ (k : ℕ). cond (k == x) value 0) (a + n) [] ∙ ap (λ b. cond b value 0 + 0) other in
    omega (
      arith,
      ap (λ m. sum_by (λ (k : ℕ). cond (k == x) value 0) (range_with_len a m)) on,
      ap (sum_by (λ (k : ℕ). cond (k == x) value 0)) (range-more a n),
      sum_by-append (λ (k : ℕ). cond (k == x) value 0) (range_with_len a n) ((a + n) ∷ []),
      here,
      one-past x value a n (omega (arith, past)),
    )

one-of : (x value a n : ℕ) → a ≤ x → x < a + n → sum_by (λ (k : ℕ). cond (k == x) value 0) (range_with_len a n) ≡ value
one-of x value a zero from below = absurd (omega (arith, from, below))
one-of x value a (suc n) from below = by (a + n == x) refl (λ less. one-of x value a n from less)
  where
    pick : ℕ → ℕ
    pick k = cond (k == x) value 0

    parts : sum_by pick (range_with_len a (suc n)) ≡ sum_by pick (range_with_len a n) + pick (a + n)
    parts =
        let on : suc n ≡ n + 1 = omega arith in
        omega (
          arith,
          ap (λ m. sum_by pick (range_with_len a m)) on,
          ap (sum_by pick) (range-more a n),
          sum_by-append pick (range_with_len a n) ((a + n) ∷ []),
          sum_by-cons pick (a + n) [],
        )

    by : (b : Bool) → (a + n == x) ≡ b → (x < a + n → sum_by pick (range_with_len a n) ≡ value) → sum_by pick (range_with_len a (suc n)) ≡ value
    by true e rest =
        let here : pick (a + n) ≡ value = ap (λ b. cond b value 0) e in
        omega (arith, parts, here, one-past x value a n (omega (arith, equal-from_yes (a + n) x e)))
    by false e rest =
        let here : pick (a + n) ≡ 0 = ap (λ b. cond b value 0) e in
        omega (arith, parts, here, rest (below-other x (a + n) (omega (arith, below)) e))

-- ---- records

module _ (election : Election) (kept : List Event) (rows : RowsAreOfTheSheets) (precincts : PrecinctsAreThere) (valid : IsValid election) (history : IsHistory election kept) where
  -- each sheet is in one group
  in-one : (value : ℕ) (added : Added) → IsAdded election added
      → sum_by (λ (group : Group). cond (is_at election group.kind group.unit added) value 0) (all_groups election) ≡ value
  in-one value added is =
      sum-flat pick (unit_groups (range_with_len 0 8)) (precinct_units election)
      ∙ sum-all (λ (u : ℕ). sum_by pick (unit_groups (range_with_len 0 8) u)) (λ (u : ℕ). cond (u == unit) value 0) of-unit (precinct_units election)
      ∙ one-of unit value 1 (length election.precincts) (omega arith)
      (omega (arith, precincts election added.sheet.card valid (added-row election kept valid history added is).card))
    where
      unit : ℕ
      unit = unit_at election added.sheet.card

      pick : Group → ℕ
      pick group = cond (is_at election group.kind group.unit added) value 0

      and-cond : (a b : Bool) → cond (a && b) value 0 ≡ cond a (cond b value 0) 0
      and-cond true b = refl
      and-cond false b = refl

      of-unit : (u : ℕ) → sum_by pick (unit_groups (range_with_len 0 8) u) ≡ cond (u == unit) value 0
      of-unit u =
          sum-map pick (λ (k : ℕ). record { unit = u; kind = k }) (range_with_len 0 8)
          ∙ sum-all (λ (k : ℕ). cond ((k == kind_of added.sheet) && (u == unit)) value 0)
          (λ (k : ℕ). cond (k == kind_of added.sheet) (cond (u == unit) value 0) 0)
          (λ k. and-cond (k == kind_of added.sheet) (u == unit)) (range_with_len 0 8)
          ∙ one-of (kind_of added.sheet) (cond (u == unit) value 0) 0 8 (omega arith) (kind_low added.sheet)

  -- what each record has, summed over the groups, is what all records have
  split : (value : CvrRecord → ℕ)
      → sum_by (λ (group : Group). sum_by value (group_records election kept group)) (all_groups election) ≡ sum_by value (all_records election kept)
  split value =
      sum-all (λ (group : Group). sum_by value (group_records election kept group))
      (λ (group : Group). sum_by (λ (added : Added). cond (is_at election group.kind group.unit added) (own added) 0) (sheets_in kept))
      (λ group.
      sum-map value (sheet_record election kept) (filter (is_at election group.kind group.unit) (sheets_in kept))
      ∙ sum-chosen (is_at election group.kind group.unit) own (sheets_in kept)) (all_groups election)
      ∙ sum-turned (λ (group : Group) (added : Added). cond (is_at election group.kind group.unit added) (own added) 0) (all_groups election) (sheets_in kept)
      ∙ sum-same (λ (added : Added). sum_by (λ (group : Group). cond (is_at election group.kind group.unit added) (own added) 0) (all_groups election)) own
      (sheets_in kept) (each-weaker (IsAdded election) _ (sheets_in kept) (λ added is. in-one (own added) added is) (sheets-are election kept history))
      ∙ sym (sum-map (λ (row : ExportSheet). value (record_of election row)) (row_of election kept) (sheets_in kept))
      ∙ sym (sum_by-IsPermutation (λ (row : ExportSheet). value (record_of election row)) (map (row_of election kept) (sheets_in kept)) (rows_of election kept)
      (rows election kept).all)
      ∙ sym (sum-map value (record_of election) (rows_of election kept))
    where
      own : Added → ℕ
      own added = value (sheet_record election kept added)

  over-groups : (count : List CvrRecord → ℕ) (value : CvrRecord → ℕ) → ((records : List CvrRecord) → count records ≡ sum_by value records)
      → sum_by (λ (group : Group). count (group_records election kept group)) (all_groups election) ≡ count (all_records election kept)
  over-groups count value is =
      sum-all (λ (group : Group). count (group_records election kept group)) (λ (group : Group). sum_by value (group_records election kept group))
      (λ group. is (group_records election kept group)) (all_groups election)
      ∙ split value ∙ sym (is (all_records election kept))

-- ---- each count is a sum over records

flat-chosen : {X Y : Type 0} (f : X → List Y) (test : Y → Bool) (value : Y → ℕ) (xs : List X)
    → sum_by value (filter test (flat_map f xs)) ≡ sum_by (λ (x : X). sum_by value (filter test (f x))) xs
flat-chosen f test value [] = refl
flat-chosen {X = X} f test value (x ∷ xs) =
    omega (
      arith,
      ap (sum_by value) (filter-append test (f x) (flat_map f xs)),
      sum_by-append value (filter test (f x)) (filter test (flat_map f xs)),
      sum_by-cons (λ (y : X). sum_by value (filter test (f y))) x xs,
      flat-chosen f test value xs,
    )

votes-sum : (contest selection : ℕ) (records : List CvrRecord)
    → total_of records contest selection
    ≡ sum_by (λ (one : CvrRecord). sum_by (λ (row : Row). row.votes) (filter (is_for contest selection) (record_rows one))) records
unfolding total_of
votes-sum contest selection records = flat-chosen record_rows (is_for contest selection) (λ (row : Row). row.votes) records

over-sum : (contest : ℕ) (records : List CvrRecord)
    → over_of records contest
    ≡ sum_by (λ (one : CvrRecord). sum_by (λ (counted : RecordContest). counted.over) (filter (λ (counted : RecordContest). contest == counted.contest) one.contests)) records
unfolding over_of
over-sum contest records =
    flat-chosen (λ (one : CvrRecord). one.contests) (λ (counted : RecordContest). contest == counted.contest) (λ (counted : RecordContest). counted.over) records

under-sum : (contest : ℕ) (records : List CvrRecord)
    → under_of records contest
    ≡ sum_by (λ (one : CvrRecord). sum_by (λ (counted : RecordContest). counted.under) (filter (λ (counted : RecordContest). contest == counted.contest) one.contests)) records
unfolding under_of
under-sum contest records =
    flat-chosen (λ (one : CvrRecord). one.contests) (λ (counted : RecordContest). contest == counted.contest) (λ (counted : RecordContest). counted.under) records

pub adds-up : RowsAreOfTheSheets → PrecinctsAreThere → SummaryAddsUp
adds-up rows precincts election kept valid history = record {
  votes = λ contest selection.
      over-groups election kept rows precincts valid history (λ records. total_of records contest selection) _ (votes-sum contest selection);
  over = λ contest. over-groups election kept rows precincts valid history (λ records. over_of records contest) _ (over-sum contest);
  under = λ contest. over-groups election kept rows precincts valid history (λ records. under_of records contest) _ (under-sum contest);
}

pub empty : EmptySummary
unfolding total_of over_of under_of
empty election = record {
  sheets = λ kind unit. refl;
  votes = λ kind unit contest selection. refl;
  over = λ kind unit contest. refl;
  under = λ kind unit contest. refl;
  batches = refl;
  names = λ contest. refl;
  waiting = refl;
}
