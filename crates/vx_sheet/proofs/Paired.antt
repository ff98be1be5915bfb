-- Sheets of two readings: what each contest was read as, and how many states there are.
use Rattle.std.proofs.Common.{◌≡◌, ◌⊎◌, inl, inr, ℕ, ◌+◌, ◌<◌, ◌≤◌, ◌%◌, ◌==◌, Bool, true, false, cond, List, [], ◌∷◌, ◌++◌, length, Some, Ok, refl, sym, ap, ◌∙◌, arith, length-append}
use Rattle.std.specs.Prelude.{◌||◌, All}
use Rattle.std.specs.List.{flat_map, range_with_len, sum_by}
use Rattle.std.proofs.lemmas.List.Elements.{All-nil, All-cons}
use Rattle.vx_base.proofs.Booleans.{chosen-if, or-cases}
use Rattle.vx_base.proofs.Lists.{All-flat_map, All-always}
use Rattle.vx_grid.specs.declared.state.State.{State}
use Rattle.vx_layout.specs.declared.bubbles.Bubble.{Bubble}
use Rattle.vx_layout.specs.declared.pages.PagePlan.{PagePlan}
use Rattle.vx_layout.specs.declared.plan.CardPlan.{CardPlan}
use Rattle.vx_rules.specs.declared.marks.ContestMarks.{ContestMarks}
use Rattle.vx_rules.specs.declared.marks.SheetMarks.{SheetMarks}
use Rattle.vx_scan_model.specs.declared.reading.PageReading.{PageReading}
use Rattle.vx_scan_model.specs.Named.{page_numbered}
use Rattle.vx_sheet.specs.declared.fault.SheetFault.TheVariants.{CardsDiffer, PagesNotFacing, KindsDiffer}
use Rattle.vx_sheet.specs.Sheet.{has_bubble, state_on, states_on, bubbles_of, bubbles_on, is_on, marks_of, marks_if_on, contest_limit, sheet_with, either_sheet, are_facing, are_alike, alike_sheet, facing_sheet, sheet_of}
use Rattle.vx_sheet.proofs.Sums.{sums-below, sums-both, sums-nothing, sums-one, at-one}

-- a reading is of a page of the plan, with a state for each of its bubbles, which are fewer than 1,000
pub record IsOf (plan : CardPlan) (reading : PageReading) : Type 0 where
  pub states : length reading.states ≡ length (bubbles_on plan reading)
  pub few : length (bubbles_on plan reading) < 1000

-- the sheet of two readings is that of a front and its back
pub sheet-either : (plan : CardPlan) (first second : PageReading) (sheet : SheetMarks) → sheet_of plan first second ≡ Ok sheet → (sheet ≡ sheet_with plan first second) ⊎ (sheet ≡ sheet_with plan second first)
sheet-either plan first second sheet h =
    let facing = chosen-if (first.code.card == second.code.card) (facing_sheet plan first second) (CardsDiffer first.code.card second.code.card) sheet h in
    let alike = chosen-if (are_facing first.code.page second.code.page) (alike_sheet plan first second) (PagesNotFacing first.code.page second.code.page) sheet facing.1 in
    let either = chosen-if (are_alike first.code second.code) (Ok (either_sheet plan first second)) (KindsDiffer first.code second.code) sheet alike.1 in
    by (first.code.page % 2 == 1) cc
  where
    by : (b : Bool) → cond b (sheet_with plan first second) (sheet_with plan second first) ≡ sheet → (sheet ≡ sheet_with plan first second) ⊎ (sheet ≡ sheet_with plan second first)
    by true e = inl (sym e)
    by false e = inr (sym e)

-- a contest that has a bubble has a state
pub some-state : (contest : ℕ) (bubbles : List Bubble) (states : List State) → length states ≡ length bubbles → has_bubble contest bubbles ≡ true → 1 ≤ length (states_on contest bubbles states)
some-state contest [] states same has = absurd cc
some-state contest (bubble ∷ bubbles) [] same has = absurd cc
some-state contest (bubble ∷ bubbles) (state ∷ states) same has = by (bubble.contest == contest) refl (some-state contest bubbles states (omega arith))
  where
    by : (b : Bool) → (bubble.contest == contest) ≡ b → (has_bubble contest bubbles ≡ true → 1 ≤ length (states_on contest bubbles states)) → 1 ≤ length (cond b (state ∷ []) [] ++ states_on contest bubbles states)
    by true e rest = omega arith
    by false e rest = rest (sym (ap (λ (c : Bool). c || has_bubble contest bubbles) e) ∙ has)

-- all contests together have no more states than there are bubbles
pub states-few : (bubbles : List Bubble) (states : List State) (a n : ℕ) → sum_by (λ c. length (states_on c bubbles states)) (range_with_len a n) ≤ length bubbles
states-few [] states a n = omega (arith, sums-nothing a n)
states-few (bubble ∷ bubbles) [] a n = omega (arith, sums-nothing a n)
states-few (bubble ∷ bubbles) (state ∷ states) a n =
    let here = λ (c : ℕ). length (states_on c (bubble ∷ bubbles) (state ∷ states)) in
    let first = at-one state bubble.contest in
    let others = λ (c : ℕ). length (states_on c bubbles states) in
    let parted = sums-below here (λ (c : ℕ). first c + others c) a n (λ c small. omega (arith, length-append (state_on c bubble (Some state)) (states_on c bubbles states))) in
    omega (arith, parted, sums-both first others (range_with_len a n), sums-one state bubble.contest a n, states-few bubbles states a n)

-- each contest on a sheet has a state
abbrev pub HasState : ContestMarks → Type 0
HasState marks = 1 ≤ length marks.states

if-on : (b : Bool) (marks : ContestMarks) → (b ≡ true → HasState marks) → All HasState (cond b (marks ∷ []) [])
if-on true marks has = All-cons HasState marks [] (has refl) (All-nil HasState)
if-on false marks has = All-nil HasState

module _ (plan : CardPlan) (front back : PageReading) (front-is : IsOf plan front) (back-is : IsOf plan back) where
  on-has : (contest : ℕ) → is_on plan front back contest ≡ true → HasState (marks_of plan front back contest)
  on-has contest on =
      let fronts = states_on contest (bubbles_on plan front) front.states in
      let backs = states_on contest (bubbles_on plan back) back.states in
      or-cases (has_bubble contest (bubbles_on plan front)) (has_bubble contest (bubbles_on plan back)) on
      (λ has. omega (arith, some-state contest (bubbles_on plan front) front.states front-is.states has, length-append fronts backs))
      (λ has. omega (arith, some-state contest (bubbles_on plan back) back.states back-is.states has, length-append fronts backs))

  pub contests-have : All HasState (sheet_with plan front back).contests
  contests-have =
      All-flat_map HasState (marks_if_on plan front back) (range_with_len 0 contest_limit)
      (All-always (λ (contest : ℕ). All HasState (marks_if_on plan front back contest)) (range_with_len 0 contest_limit)
      (λ contest. if-on (is_on plan front back contest) (marks_of plan front back contest) (on-has contest)))
