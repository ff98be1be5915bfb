-- Near each tile of a printed page a place is light: one that stands between two characters of a line, wherever that is,
-- and between two rows of the grid.
use Rattle.std.proofs.Common.{◌≡◌, ◌+◌, ◌-◌, ◌*◌, ◌/◌, ◌%◌, ◌<◌, ◌≤◌, ℕ, List, [], ◌∷◌, ◌++◌, map, length, chars, get_or, Bool, true, false, cond, ◌&&◌, ◌||◌, not, nat_lt, ℤ, pos, ◌-ℤ◌, Ok, Some, inl, inr, ⊎_elim, refl, subst, ◌∙◌, arith}
use Rattle.std.specs.Prelude.{All, slice_get, slice_index_or}
use Rattle.std.specs.List.{flat_map, range_with_len}
use Rattle.std.proofs.lemmas.Bool.{cases_lt}
use Rattle.std.proofs.lemmas.Int.{ints}
use Rattle.std.proofs.lemmas.List.Elements.{All-nil, All-cons, All-append, All-map}
use Rattle.std.proofs.lemmas.Option.{slice_get_within, get_or_from_slice_get}
use Rattle.vx_base.proofs.Booleans.{and-left, or-cases, chosen-if, chosen-unless, is-false, not-both}
use Rattle.vx_base.proofs.Lists.{All-flat_map, All-always}
use Rattle.vx_base.proofs.Results.{bind_ok}
use Rattle.vx_plane.specs.Plane.{Pixels, nowhere, any_of, rectangle}
use Rattle.vx_plane.proofs.Pages.{in_any-some, any_of-some, rectangle-sides, dark_at-inside}
use Rattle.vx_grid.specs.declared.paper.Paper.{Paper}
use Rattle.vx_grid.specs.declared.sizes.HalfSides.{HalfSides}
use Rattle.vx_grid.specs.Paper.{page_width, page_height, first_y, last_row}
use Rattle.vx_grid.specs.Grid.{x_of, y_of}
use Rattle.vx_grid.specs.Marks.{marks, mark_of, mark_pixels, timing_marks}
use Rattle.vx_grid.specs.Sizes as sizes
use Rattle.vx_grid.specs.Sizes.{round, zone_of}
use Rattle.vx_grid.proofs.Papers.{first-y_high, first-y_low, last-row_low, height-is}
use Rattle.vx_code.specs.Code.{place_of_box, boxes_of}
use Rattle.vx_font.specs.Font.{dot_of}
use Rattle.vx_election_model.specs.declared.contest.Contest.{Contest}
use Rattle.vx_election_model.specs.declared.election.Election.{Election}
use Rattle.vx_election_model.specs.Options.{options_of}
use Rattle.vx_styles.specs.Cards.{cards_of, card_at, contests_of_card}
use Rattle.vx_layout.specs.declared.bubbles.Bubble.{Bubble}
use Rattle.vx_layout.specs.declared.fault.LayoutFault.TheVariants.{TooManyPages, NoCard}
use Rattle.vx_layout.specs.declared.flow.Block.{Block}
use Rattle.vx_layout.specs.declared.lines.TextLine.{TextLine}
use Rattle.vx_layout.specs.declared.pages.PagePlan.{PagePlan}
use Rattle.vx_layout.specs.declared.plan.CardPlan.{CardPlan}
use Rattle.vx_layout.specs.Blocks.{heading_rows, description_of, seats_line, label_at, heading_lines, option_lines, lines_of_options, block_lines}
use Rattle.vx_layout.specs.Flow.{top, blocks_from, contest_at, row_of}
use Rattle.vx_layout.specs.Lines.{rows_of, lines_of, placed_line, lines_at}
use Rattle.vx_layout.specs.Plan.{texts_of, on_page, foot_line, page_plan, pages_of, card_plan, contests_checked, plan_with, plan_of_card, plan_of}
use Rattle.vx_layout.specs.Print.{box_pixels, printed_box, code_pixels, outer_ellipse, inner_ellipse, outline, bubble_box, bubble_pixels, dot_pixels, column_pixels, glyph_pixels, character_pixels, line_pixels, print_of}
use Rattle.vx_layout.specs.Printed.{code_of, print_of_page}
use Rattle.vx_layout.specs.Zones.{bubble_zone_of}
use Rattle.vx_scan_model.specs.Ink.{bubble_at}
use Rattle.vx_gray.specs.Fits.{MarkedPrintsHaveLight, PrintsHaveLight}

-- a line's characters stand in cells of 12 columns, the first of which is column 2 of the page: all lines' do
record InCells (line : TextLine) : Type 0 where
  cell : ℕ
  x_is : line.x ≡ 2 + 12 * cell

-- columns and rows where nothing is printed: of each cell's columns the last but one, and of the rows the middle ones
-- between two rows of the grid
abbrev between_cells : ℕ → ℕ
between_cells cell = 12 * cell

abbrev between_rows : Paper → ℕ → ℕ
between_rows paper r = first_y paper + 26 + 52 * r

-- a set, or nothing
of-shown : (b : Bool) (set : Pixels) (u v : ℤ) → cond b set nowhere u v ≡ true → set u v ≡ true
of-shown true set u v h = h
of-shown false set u v h = absurd cc

-- what stands round a row of the grid, no more than 25 rows from it
round-no : (paper : Paper) (half : HalfSides) (x row r : ℕ) (u : ℤ) → half.down ≤ 25 → round half x (y_of paper row) u (pos (between_rows paper r)) ≡ true → ⊥
round-no paper half x row r u few h =
    let sides = rectangle-sides (pos x -ℤ pos half.across) (pos (y_of paper row) -ℤ pos half.down) (half.across + half.across) (half.down + half.down)
    u (pos (between_rows paper r)) h in
    omega (arith, ints, few, sides.2, sides.3)

marks-no : (paper : Paper) (r : ℕ) (u : ℤ) → timing_marks paper u (pos (between_rows paper r)) ≡ true → ⊥
unfolding timing_marks mark_pixels
marks-no paper r u h =
    let one = in_any-some (marks paper) (mark_pixels paper) u (pos (between_rows paper r)) h in
    round-no paper sizes.mark (x_of (mark_of (last_row paper) one.0).0) (mark_of (last_row paper) one.0).1 r u (omega arith) one.2

boxes-no : (paper : Paper) (boxes : List Bool) (r : ℕ) (u : ℤ) → code_pixels paper boxes u (pos (between_rows paper r)) ≡ true → ⊥
unfolding code_pixels box_pixels
boxes-no paper boxes r u h =
    let one = in_any-some 84 (printed_box paper boxes) u (pos (between_rows paper r)) h in
    round-no paper sizes.code_box (x_of (place_of_box paper one.0).0) (place_of_box paper one.0).1 r u (omega arith)
    (of-shown (slice_index_or boxes one.0 false) (box_pixels paper one.0) u (pos (between_rows paper r)) one.2)

bubble-no : (paper : Paper) (bubble : Bubble) (r : ℕ) (u : ℤ) → bubble_pixels paper bubble u (pos (between_rows paper r)) ≡ true → ⊥
unfolding bubble_pixels outline
bubble-no paper bubble r u h =
    let i : ℤ = u -ℤ pos (x_of bubble.col) in
    let j : ℤ = pos (between_rows paper r) -ℤ pos (y_of paper bubble.row) in
    let sides = rectangle-sides (pos 0 -ℤ pos 20) (pos 0 -ℤ pos 13) 40 26 i j
    (and-left (bubble_box i j) (outer_ellipse i j && not (inner_ellipse i j)) h) in
    omega (arith, ints, sides.2, sides.3)

bubbles-no : (paper : Paper) (bubbles : List Bubble) (r : ℕ) (u : ℤ) → any_of bubbles (bubble_pixels paper) u (pos (between_rows paper r)) ≡ true → ⊥
bubbles-no paper bubbles r u h =
    let none : Bubble = record { contest = 0; option = 0; col = 0; row = 0 } in
    let one = any_of-some bubbles none (bubble_pixels paper) u (pos (between_rows paper r)) h in
    bubble-no paper (get_or bubbles one.0 none) r u one.2

-- a dot of a character in its cell
dot-no : (c cell y column row a : ℕ) (v : ℤ) → column < 5 → dot_pixels c (2 + 12 * cell) y column row (pos (between_cells a)) v ≡ true → ⊥
dot-no c cell y column row a v few h =
    let sides = rectangle-sides (pos (2 + 12 * cell + 2 * column)) (pos (y + 2 * row)) 2 2 (pos (between_cells a)) v
    (of-shown (dot_of c column row) (rectangle (pos (2 + 12 * cell + 2 * column)) (pos (y + 2 * row)) 2 2) (pos (between_cells a)) v h) in
    omega (arith, ints, few, sides.0, sides.1)

glyph-no : (c x cell y a : ℕ) (v : ℤ) → x ≡ 2 + 12 * cell → glyph_pixels c x y (pos (between_cells a)) v ≡ true → ⊥
unfolding glyph_pixels column_pixels
glyph-no c x cell y a v is h =
    let across = in_any-some 5 (column_pixels c x y) (pos (between_cells a)) v h in
    let down = in_any-some 7 (dot_pixels c x y across.0) (pos (between_cells a)) v across.2 in
    dot-no c cell y across.0 down.0 a v across.1
    (subst (λ n. dot_pixels c n y across.0 down.0 (pos (between_cells a)) v ≡ true) is down.2)

line-no : (line : TextLine) (a : ℕ) (v : ℤ) → InCells line → line_pixels line (pos (between_cells a)) v ≡ true → ⊥
unfolding line_pixels
line-no line a v in_cells h =
    let one = in_any-some (length (chars line.text)) (character_pixels line) (pos (between_cells a)) v h in
    glyph-no (get_or (chars line.text) one.0 0) (line.x + 12 * one.0) (in_cells.cell + one.0) line.y a v (omega (arith, in_cells.x_is)) one.2

texts-no : (texts : List TextLine) (a : ℕ) (v : ℤ) → All InCells texts → any_of texts line_pixels (pos (between_cells a)) v ≡ true → ⊥
texts-no texts a v in_cells h =
    let none : TextLine = record { x = 0; y = 0; text = [] } in
    let one = any_of-some texts none line_pixels (pos (between_cells a)) v h in
    line-no (get_or texts one.0 none) a v (in_cells one.0 none one.1) one.2

-- where both meet nothing is printed
print-no : (plan : PagePlan) (boxes : List Bool) (a r : ℕ) → All InCells plan.texts
    → print_of plan boxes (pos (between_cells a)) (pos (between_rows plan.paper r)) ≡ false
unfolding print_of
print-no plan boxes a r in_cells =
    let u : ℤ = pos (between_cells a) in
    let v : ℤ = pos (between_rows plan.paper r) in
    let marked : Bool = timing_marks plan.paper u v in
    let coded : Bool = code_pixels plan.paper boxes u v in
    let bubbled : Bool = any_of plan.bubbles (bubble_pixels plan.paper) u v in
    let typed : Bool = any_of plan.texts line_pixels u v in
    is-false ((marked || coded) || (bubbled || typed)) (λ h.
    or-cases (marked || coded) (bubbled || typed) h
    (λ k. or-cases marked coded k (marks-no plan.paper r u) (boxes-no plan.paper boxes r u))
    (λ k. or-cases bubbled typed k (bubbles-no plan.paper plan.bubbles r u) (texts-no plan.texts a v in_cells)))

-- the lines of a text in a text column
lines-cells : (paper : Paper) (column row : ℕ) (text : List ℕ) → All InCells (lines_at paper (4 + 9 * column) row text)
unfolding lines_at
lines-cells paper column row text =
    All-map InCells (placed_line paper (4 + 9 * column) row text) (range_with_len 0 (lines_of text))
    (All-always (λ k. InCells (placed_line paper (4 + 9 * column) row text k)) (range_with_len 0 (lines_of text))
    (λ k. record { cell = 24 + 36 * column; x_is = omega arith }))

-- the lines of a block
block-cells : (paper : Paper) (contest : Contest) (column row : ℕ) → All InCells (block_lines paper contest (4 + 9 * column) row)
unfolding block_lines
block-cells paper contest column row =
    let col = 4 + 9 * column in
    let asked = row + rows_of contest.title in
    let seated = asked + rows_of (description_of contest) in
    let title = lines_at paper col row contest.title in
    let description = lines_at paper col asked (description_of contest) in
    let seats = lines_at paper col seated (seats_line contest) in
    let options = range_with_len 0 (options_of contest) in
    All-append InCells (heading_lines paper contest col row) (lines_of_options paper contest col row)
    (All-append InCells (title ++ description) seats
    (All-append InCells title description (lines-cells paper column row contest.title) (lines-cells paper column asked (description_of contest)))
    (lines-cells paper column seated (seats_line contest)))
    (All-flat_map InCells (option_lines paper contest col row) options
    (All-always (λ option. All InCells (option_lines paper contest col row option)) options
    (λ option. lines-cells paper column (row + heading_rows contest + option) (label_at contest option))))

-- the lines of a page
page-cells : (election : Election) (number : ℕ) (blocks : List Block) (pages page : ℕ)
    → All InCells (page_plan election (card_at election number) blocks pages page).texts
page-cells election number blocks pages page =
    let foot : TextLine = foot_line election (card_at election number) page pages in
    let on : List Block = on_page page blocks in
    All-append InCells (flat_map (texts_of election.paper election.contests) on) (foot ∷ [])
    (All-flat_map InCells (texts_of election.paper election.contests) on
    (All-always (λ (block : Block). All InCells (texts_of election.paper election.contests block)) on
    (λ block. block-cells election.paper (contest_at election.contests block.contest) (block.spot.column % 3) (row_of block.spot))))
    (All-cons InCells foot [] (record { cell = 24; x_is = refl }) (All-nil InCells))

-- the lines of each page of a plan
plan-cells : (election : Election) (number : ℕ) (plan : CardPlan) → plan_of election number ≡ Ok plan
    → All (λ (page : PagePlan). All InCells page.texts) plan.pages
unfolding plan_of
plan-cells election number plan h =
    let numbers = contests_of_card election number in
    let count = pages_of election.paper election.contests numbers in
    let make = page_plan election (card_at election number) (blocks_from election.paper election.contests top numbers) count in
    let made = card_plan number (map make (range_with_len 1 count)) in
    let first = chosen-if (nat_lt number (length (cards_of election))) (plan_of_card election number) (NoCard (length (cards_of election))) plan h in
    let second = bind_ok (contests_checked election.paper election.contests numbers)
    (λ _. plan_with election number (card_at election number) numbers count) plan first.1 in
    let third = chosen-unless (nat_lt 63 count) (Ok made) (TooManyPages count) plan second.2 in
    let is : made ≡ plan = cc (third.1) in
    let InAll : CardPlan → Type 0 = λ (p : CardPlan). All (λ (page : PagePlan). All InCells page.texts) p.pages in
    subst InAll is
    (All-map (λ (page : PagePlan). All InCells page.texts) make (range_with_len 1 count)
    (All-always (λ page. All InCells (make page).texts) (range_with_len 1 count)
    (page-cells election number (blocks_from election.paper election.contests top numbers) count)))

printed-cells : (plan : PagePlan) (pages : List PagePlan) (i : ℕ) → slice_get pages i ≡ Some plan
    → All (λ (page : PagePlan). All InCells page.texts) pages → All InCells plan.texts
printed-cells plan pages i at all =
    subst (λ (page : PagePlan). All InCells page.texts) (get_or_from_slice_get pages i plan plan at) (all i plan (slice_get_within pages i plan at))

-- near each row of a page is one between two rows of the grid
near-row : (first height v : ℕ) → v < height → first ≤ 74 → first + 26 < height
    → (r : ℕ) × (first + 26 + 52 * r < height) × (v / 64 ≤ (first + 26 + 52 * r) / 64 + 1) × ((first + 26 + 52 * r) / 64 ≤ v / 64 + 1)
near-row first height v inside low high = elim (cases_lt v (first + 26)) [
  | inl l ↦ (0, omega arith, omega arith, omega arith)
  | inr k ↦ ((v - (first + 26)) / 52, omega arith, omega arith, omega arith)
]

paper-room : (paper : Paper) → first_y paper + 26 < page_height paper
paper-room paper = omega (arith, height-is paper, first-y_low paper, last-row_low paper)

-- in the zone of a bubble there is no such place
zone-no : (paper : Paper) (bubble : Bubble) (r : ℕ) (u : ℤ) → bubble_zone_of paper bubble u (pos (between_rows paper r)) ≡ true → ⊥
zone-no paper bubble r u h = round-no paper (zone_of sizes.bubble) (x_of bubble.col) bubble.row r u (omega arith) h

-- near each tile of a printed page a place is light, also where its bubbles are marked
pub marked-light : MarkedPrintsHaveLight
marked-light election printed plan marked is inked u v inside =
    let in_cells : All InCells plan.texts =
    printed-cells plan is.card.pages (printed.page - 1) is.page_is (plan-cells election printed.card is.card is.card_is) in
    let row = near-row (first_y plan.paper) (page_height plan.paper) v inside.row (first-y_high plan.paper) (paper-room plan.paper) in
    let a : ℕ = u / 12 in
    let within : between_cells a < page_width = omega (arith, inside.column) in
    let x : ℤ = pos (between_cells a) in
    let y : ℤ = pos (between_rows plan.paper row.0) in (
      between_cells a,
      between_rows plan.paper row.0,
      record { column = within; row = row.1 },
      record { left = omega arith; right = omega arith; above = row.2; below = row.3 },
      dark_at-inside page_width (page_height plan.paper) (between_cells a) (between_rows plan.paper row.0) marked within row.1
          ∙ is-false (marked x y) (λ h.
          ⊎_elim (λ printed_there. not-both (print_of_page election plan printed x y) printed_there
          (print-no plan (boxes_of (code_of election printed)) a row.0 in_cells))
          (λ zone. zone-no plan.paper (bubble_at plan zone.0) row.0 x zone.2)
          (inked.only x y h)),
    )

-- so of the print itself
pub prints-light : PrintsHaveLight
prints-light election printed plan is =
    marked-light election printed plan (print_of_page election plan printed) is (record { only = λ x y h. inl h })
