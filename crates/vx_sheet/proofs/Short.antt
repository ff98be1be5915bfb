-- How long the record of a sheet is.
use Rattle.std.proofs.Common.{◌≡◌, ℕ, ◌+◌, ◌*◌, ◌^◌, ◌<◌, ◌≤◌, Bool, true, false, cond, List, [], ◌∷◌, ◌++◌, map, length, codes, refl, sym, ap, ◌∙◌, subst, arith, length-append, lit<, lit≤}
use Rattle.std.specs.List.{flat_map, range_with_len, sum_by}
use Rattle.std.specs.Fmt.{decimal}
use Rattle.std.proofs.lemmas.Fmt.{length-decimal-le}
use Rattle.std.proofs.lemmas.List.{length-map}
use Rattle.std.proofs.lemmas.List.Concat.{length-flat_map, flat_map-cons}
use Rattle.std.proofs.lemmas.List.Folds.{flat_map-map}
use Rattle.vx_grid.specs.declared.kind.Kind.{Kind}
use Rattle.vx_grid.specs.declared.kind.Kind.TheVariants.{Precinct, Absentee, Provisional, Other}
use Rattle.vx_grid.specs.declared.state.State.{State}
use Rattle.vx_grid.specs.Kinds.{kind_word}
use Rattle.vx_layout.specs.declared.plan.CardPlan.{CardPlan}
use Rattle.vx_rules.specs.declared.marks.ContestMarks.{ContestMarks}
use Rattle.vx_rules.specs.declared.marks.SheetMarks.{SheetMarks}
use Rattle.vx_scan_model.specs.declared.reading.PageReading.{PageReading}
use Rattle.vx_events.specs.declared.event.Event.TheVariants.{Add}
use Rattle.vx_events.specs.declared.key.Key.{Key}
use Rattle.vx_records.specs.Records.{marks_word, record_of, spaced, state_letter}
use Rattle.vx_sheet.specs.Sheet.{bubbles_on, is_on, marks_if_on, marks_of, states_on, contest_limit, sheet_with}
use Rattle.vx_sheet.proofs.Sums.{sums-below, sums-both, sums-fives, sums-laid}
use Rattle.vx_sheet.proofs.Paired.{IsOf, states-few}

-- how long a contest stands in a record, with the blank before it
abbrev pub weight : ContestMarks → ℕ
weight marks = length (32 ∷ marks_word marks)

weighs : (marks : ContestMarks) → marks.contest < 500 → weight marks ≤ 5 + length marks.states
weighs marks small =
    let digits : length (decimal marks.contest) ≤ 3 = length-decimal-le 3 marks.contest (omega arith) (omega arith) (omega arith) in
    omega (arith, digits, length-append (decimal marks.contest) (58 ∷ map state_letter marks.states), length-map marks.states state_letter)

low : (bound fives both fronts backs some others : ℕ) → bound ≡ fives + both → fives ≡ 5 * 500 → both ≡ fronts + backs → fronts ≤ some → backs ≤ others → some < 1000 → others < 1000 → bound ≤ 4500
low bound fives both fronts backs some others p q r s t u v = omega arith

trans-≤ : (a b c : ℕ) → a ≤ b → b ≤ c → a ≤ c
trans-≤ a b c p q = omega arith

module _ (plan : CardPlan) (front back : PageReading) where
  -- how many states a contest has on both pages
  abbrev fronts : ℕ → ℕ
  fronts contest = length (states_on contest (bubbles_on plan front) front.states)

  abbrev backs : ℕ → ℕ
  backs contest = length (states_on contest (bubbles_on plan back) back.states)

  on-weighs : (contest : ℕ) → contest < 500 → sum_by weight (marks_if_on plan front back contest) ≤ 5 + (fronts contest + backs contest)
  on-weighs contest small = by (is_on plan front back contest)
    where
      by : (b : Bool) → sum_by weight (cond b (marks_of plan front back contest ∷ []) []) ≤ 5 + (fronts contest + backs contest)
      by true =
          omega (arith, weighs (marks_of plan front back contest) small, length-append (states_on contest (bubbles_on plan front) front.states) (states_on contest (bubbles_on plan back) back.states))
      by false = omega arith

  -- all states of a sheet, and five bytes more for each contest that there could be
  abbrev bound : ℕ → ℕ
  bound contest = 5 + (fronts contest + backs contest)

  bound-low : IsOf plan front → IsOf plan back → sum_by bound (range_with_len 0 500) ≤ 4500
  bound-low front-is back-is =
      let parted : sum_by bound (range_with_len 0 500) ≡ sum_by (λ contest. 5) (range_with_len 0 500) + sum_by (λ contest. fronts contest + backs contest) (range_with_len 0 500)
      = sums-both (λ (contest : ℕ). 5) (λ (contest : ℕ). fronts contest + backs contest) (range_with_len 0 500) in
      let fives : sum_by (λ contest. 5) (range_with_len 0 500) ≡ 5 * 500 = sums-fives 0 500 in
      let both : sum_by (λ contest. fronts contest + backs contest) (range_with_len 0 500) ≡ sum_by fronts (range_with_len 0 500) + sum_by backs (range_with_len 0 500)
      = sums-both fronts backs (range_with_len 0 500) in
      let some : sum_by fronts (range_with_len 0 500) ≤ length (bubbles_on plan front) = states-few (bubbles_on plan front) front.states 0 500 in
      let others : sum_by backs (range_with_len 0 500) ≤ length (bubbles_on plan back) = states-few (bubbles_on plan back) back.states 0 500 in
      low (sum_by bound (range_with_len 0 500)) (sum_by (λ contest. 5) (range_with_len 0 500)) (sum_by (λ contest. fronts contest + backs contest) (range_with_len 0 500))
      (sum_by fronts (range_with_len 0 500)) (sum_by backs (range_with_len 0 500)) (length (bubbles_on plan front)) (length (bubbles_on plan back))
      parted fives both some others front-is.few back-is.few

  pub contests-weigh : IsOf plan front → IsOf plan back → sum_by weight (sheet_with plan front back).contests ≤ 4500
  unfolding contest_limit
  contests-weigh front-is back-is =
      trans-≤ _ _ _ (sums-laid weight (marks_if_on plan front back) bound 0 500 on-weighs) (bound-low front-is back-is)

-- what stands behind a blank
spaced-cons : (word : List ℕ) (words : List (List ℕ)) → length (spaced (word ∷ words)) ≡ 1 + length word + length (spaced words)
spaced-cons word words =
    ap length (flat_map-cons (λ (other : List ℕ). 32 ∷ other) word words) ∙ length-append (32 ∷ word) (spaced words) ∙ omega arith

spaced-marks : (contests : List ContestMarks) → length (spaced (map marks_word contests)) ≡ sum_by weight contests
spaced-marks contests =
    ap length (flat_map-map (λ (word : List ℕ). 32 ∷ word) marks_word contests) ∙ length-flat_map (λ (marks : ContestMarks). 32 ∷ marks_word marks) contests

kind-short : (kind : Kind) (test : Bool) → length (kind_word kind test) ≤ 16
kind-short Precinct false = lit≤ tt
kind-short Absentee false = lit≤ tt
kind-short Provisional false = lit≤ tt
kind-short Other false = lit≤ tt
kind-short Precinct true = lit≤ tt
kind-short Absentee true = lit≤ tt
kind-short Provisional true = lit≤ tt
kind-short Other true = lit≤ tt

-- a sheet's record is short
pub record-short : (key : Key) (sheet : SheetMarks) → length key.batch ≤ 32 → key.number ≤ 999999 → sheet.card < 1024 → sheet.front < 64 → sum_by weight sheet.contests ≤ 4500 → length (record_of (Add key sheet)) ≤ 16384
record-short key sheet batch number card front contests =
    let marks = map marks_word sheet.contests in
    let kind = kind_word sheet.kind sheet.test in
    let n : length (decimal key.number) ≤ 6 = length-decimal-le 6 key.number (omega arith) (omega arith) (omega arith) in
    let c : length (decimal sheet.card) ≤ 4 = length-decimal-le 4 sheet.card (omega arith) (omega arith) (omega arith) in
    let f : length (decimal sheet.front) ≤ 2 = length-decimal-le 2 sheet.front (omega arith) (omega arith) (omega arith) in
    let add : length (codes "add") ≡ 3 = refl in
    omega (
      arith,
      n,
      c,
      f,
      batch,
      contests,
      add,
      kind-short sheet.kind sheet.test,
      spaced-marks sheet.contests,
      spaced-cons (codes "add") (key.batch ∷ decimal key.number ∷ decimal sheet.card ∷ decimal sheet.front ∷ kind ∷ marks),
      spaced-cons key.batch (decimal key.number ∷ decimal sheet.card ∷ decimal sheet.front ∷ kind ∷ marks),
      spaced-cons (decimal key.number) (decimal sheet.card ∷ decimal sheet.front ∷ kind ∷ marks),
      spaced-cons (decimal sheet.card) (decimal sheet.front ∷ kind ∷ marks),
      spaced-cons (decimal sheet.front) (kind ∷ marks),
      spaced-cons kind marks,
    )
