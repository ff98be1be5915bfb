-- The sheet of two readings, or why they are none. This project's own rule.
use Rattle.std.specs.Prelude.{ℕ, ◌+◌, ◌%◌, ◌&&◌, ◌||◌, ◌==◌, Bool, true, false, if◌then◌else◌, List, [], ◌∷◌, ◌++◌, Option, Some, None, Result, Ok, Err}
use Rattle.std.specs.Bool.{beq}
use Rattle.std.specs.List.{flat_map, list_any, range_with_len}
use Rattle.vx_grid.specs.declared.kind.Kind.{Kind}
use Rattle.vx_grid.specs.declared.kind.Kind.TheVariants.{Precinct, Absentee, Provisional, Other}
use Rattle.vx_grid.specs.declared.state.State.{State}
use Rattle.vx_code.specs.declared.code.PageCode.{PageCode}
use Rattle.vx_layout.specs.declared.bubbles.Bubble.{Bubble}
use Rattle.vx_layout.specs.declared.pages.PagePlan.{PagePlan}
use Rattle.vx_layout.specs.declared.plan.CardPlan.{CardPlan}
use Rattle.vx_scan_model.specs.declared.reading.PageReading.{PageReading}
use Rattle.vx_scan_model.specs.Named.{page_numbered}
use Rattle.vx_rules.specs.declared.marks.ContestMarks.{ContestMarks}
use Rattle.vx_rules.specs.declared.marks.SheetMarks.{SheetMarks}
use Rattle.vx_sheet.specs.declared.fault.SheetFault.{SheetFault}
use Rattle.vx_sheet.specs.declared.fault.SheetFault.TheVariants.{CardsDiffer, PagesNotFacing, KindsDiffer}

-- the second page is the back of the first: their numbers are 2n - 1 and 2n
abbrev pub is_back_of : ℕ → ℕ → Bool
is_back_of back front = (front % 2 == 1) && (back == front + 1)

-- one of two pages is the back of the other
abbrev pub are_facing : ℕ → ℕ → Bool
are_facing one other = is_back_of other one || is_back_of one other

-- two kinds are the same
abbrev pub same_kind : Kind → Kind → Bool
same_kind Precinct Precinct = true
same_kind Absentee Absentee = true
same_kind Provisional Provisional = true
same_kind Other Other = true
same_kind first second = false

-- two codes are of one kind, and both of test ballots or neither
abbrev pub are_alike : PageCode → PageCode → Bool
are_alike one other = same_kind one.kind other.kind && beq one.test other.test

-- the bubbles of a planned page
abbrev pub bubbles_of : Option PagePlan → List Bubble
bubbles_of None = []
bubbles_of (Some page) = page.bubbles

-- the bubbles of the page that was read
abbrev pub bubbles_on : CardPlan → PageReading → List Bubble
bubbles_on plan reading = bubbles_of (page_numbered plan reading.code.page)

-- whether a contest has one of these bubbles
abbrev pub has_bubble : ℕ → List Bubble → Bool
has_bubble contest bubbles = list_any (λ (bubble : Bubble). bubble.contest == contest) bubbles

-- what a bubble was read as, if it is one of the contest's
abbrev pub state_on : ℕ → Bubble → Option State → List State
state_on contest bubble None = []
state_on contest bubble (Some state) = if bubble.contest == contest then state ∷ [] else []

-- what the bubbles of a contest were read as, in order
abbrev pub states_on : ℕ → List Bubble → List State → List State
states_on contest [] states = []
states_on contest (bubble ∷ bubbles) [] = []
states_on contest (bubble ∷ bubbles) (state ∷ states) =
    state_on contest bubble (Some state) ++ states_on contest bubbles states

-- contests have numbers below this one, as an election has no more of them
unfoldable pub contest_limit : ℕ
contest_limit = 500

-- whether a contest has a bubble on either page
abbrev pub is_on : CardPlan → PageReading → PageReading → ℕ → Bool
is_on plan front back contest = has_bubble contest (bubbles_on plan front) || has_bubble contest (bubbles_on plan back)

-- what a contest was read as on both pages
abbrev pub marks_of : CardPlan → PageReading → PageReading → ℕ → ContestMarks
marks_of plan front back contest = record {
  contest = contest;
  states =
      states_on contest (bubbles_on plan front) front.states ++ states_on contest (bubbles_on plan back) back.states;
}

-- the same, if it has a bubble on either page
abbrev pub marks_if_on : CardPlan → PageReading → PageReading → ℕ → List ContestMarks
marks_if_on plan front back contest =
    if is_on plan front back contest then marks_of plan front back contest ∷ [] else []

-- the sheet of a front and its back: the contests with a bubble on either page, in ascending order
abbrev pub sheet_with : CardPlan → PageReading → PageReading → SheetMarks
sheet_with plan front back = record {
  card = front.code.card;
  front = front.code.page;
  kind = front.code.kind;
  test = front.code.test;
  contests = flat_map (marks_if_on plan front back) (range_with_len 0 contest_limit);
}

-- the sheet of two facing pages, whichever is the front
abbrev pub either_sheet : CardPlan → PageReading → PageReading → SheetMarks
either_sheet plan first second =
    if first.code.page % 2 == 1 then sheet_with plan first second else sheet_with plan second first

-- of two facing pages of one card: their sheet, unless their kinds or test flags differ
abbrev pub alike_sheet : CardPlan → PageReading → PageReading → Result SheetMarks SheetFault
alike_sheet plan first second =
    if are_alike first.code second.code then Ok (either_sheet plan first second)
    else Err (KindsDiffer first.code second.code)

-- of two pages of one card: the same, unless they don't face each other
abbrev pub facing_sheet : CardPlan → PageReading → PageReading → Result SheetMarks SheetFault
facing_sheet plan first second =
    if are_facing first.code.page second.code.page then alike_sheet plan first second
    else Err (PagesNotFacing first.code.page second.code.page)

-- the sheet of two readings by the plan of the first's card, or the first of three faults: their cards
-- differ, their pages don't face each other, their kinds or test flags differ
abbrev pub sheet_of : CardPlan → PageReading → PageReading → Result SheetMarks SheetFault
sheet_of plan first second =
    if first.code.card == second.code.card then facing_sheet plan first second
    else Err (CardsDiffer first.code.card second.code.card)
