-- The plan of a card: its pages with their bubbles and texts, or why it can't be printed.
use Rattle.std.specs.Prelude.{◌≤◌, All, ℕ, ◌-◌, ◌==◌, ◌++◌, List, [], ◌∷◌, map, filter, find, length, take, nat_lt, chars, codes, encode_utf8_all, count_by, sum_by, slice_index_or, if◌then◌else◌, Option, None, Some, Result, Ok, Err}
use Rattle.std.specs.Fmt.{decimal}
use Rattle.std.specs.List.{flat_map, range_with_len}
use Rattle.vx_base.specs.Results.{◌>>=◌}
use Rattle.vx_grid.specs.declared.paper.Paper.{Paper}
use Rattle.vx_grid.specs.Grid.{y_of, contest_rows, foot_row}
use Rattle.vx_election_model.specs.declared.named.Named.{Named}
use Rattle.vx_election_model.specs.declared.choice.Choice.{Choice}
use Rattle.vx_election_model.specs.declared.contest.Contest.{Contest}
use Rattle.vx_election_model.specs.declared.election.Election.{Election}
use Rattle.vx_styles.specs.declared.card.Card.{Card}
use Rattle.vx_styles.specs.Cards.{cards_of, card_at, contests_of_card}
use Rattle.vx_layout.specs.declared.bubbles.Bubble.{Bubble}
use Rattle.vx_layout.specs.declared.lines.TextLine.{TextLine}
use Rattle.vx_layout.specs.declared.pages.PagePlan.{PagePlan}
use Rattle.vx_layout.specs.declared.plan.CardPlan.{CardPlan}
use Rattle.vx_layout.specs.declared.flow.Block.{Block}
use Rattle.vx_layout.specs.declared.fault.LayoutFault.{LayoutFault}
use Rattle.vx_layout.specs.declared.fault.LayoutFault.TheVariants.{ContestTooTall, TextTooLong, TooManyPages, NoCard}
use Rattle.vx_layout.specs.Lines.{size_of}
use Rattle.vx_layout.specs.Blocks.{height_of, block_lines, block_bubbles}
use Rattle.vx_layout.specs.Flow.{top, contest_at, blocks_from, end_from, page_of, column_of, row_of, even_up}

-- the bubbles of a block where it stands
abbrev pub bubbles_of : List Contest → Block → List Bubble
bubbles_of contests block =
    block_bubbles block.contest (contest_at contests block.contest) (column_of block.spot) (row_of block.spot)

-- the lines of a block where it stands
abbrev pub texts_of : Paper → List Contest → Block → List TextLine
texts_of paper contests block =
    block_lines paper (contest_at contests block.contest) (column_of block.spot) (row_of block.spot)

-- the blocks that stand on a page
abbrev pub on_page : ℕ → List Block → List Block
on_page page blocks = filter (λ block. page_of block.spot == page) blocks

-- the name of the precinct with a number
abbrev pub precinct_name : List Named → ℕ → List ℕ
precinct_name precincts number = (slice_index_or precincts number (record { id = []; name = [] })).name

-- what a page says of itself
abbrev pub foot_text : Election → Card → ℕ → ℕ → List ℕ
foot_text election card page pages =
    election.title ++ codes " - " ++ election.date ++ codes " - " ++ precinct_name election.precincts card.precinct
    ++ codes " - page " ++ decimal page ++ codes " of " ++ decimal pages

-- the pixel row where the foot line's characters begin: 1810, or 2396 on legal paper
abbrev pub foot_y : Paper → ℕ
foot_y paper = y_of paper (foot_row paper) - 18

-- the foot line: its first 100 characters, in the paper's row for it
abbrev pub foot_line : Election → Card → ℕ → ℕ → TextLine
foot_line election card page pages = record {
  x = 290;
  y = foot_y election.paper;
  text = encode_utf8_all (take 100 (chars (foot_text election card page pages)));
}

-- a page of so many, with the blocks that stand on it
abbrev pub page_plan : Election → Card → List Block → ℕ → ℕ → PagePlan
page_plan election card blocks pages page = record {
  page = page;
  of = pages;
  paper = election.paper;
  bubbles = flat_map (bubbles_of election.contests) (on_page page blocks);
  texts =
      flat_map (texts_of election.paper election.contests) (on_page page blocks)
      ++ foot_line election card page pages ∷ [];
}

-- all pages of a card
abbrev pub page_plans : Election → Card → List Block → ℕ → List PagePlan
page_plans election card blocks pages = map (page_plan election card blocks pages) (range_with_len 1 pages)

-- how many characters of a line have no glyph and are drawn as the hollow box: those above U+007F
abbrev pub hollow_in : TextLine → ℕ
hollow_in line = count_by (λ c. nat_lt 127 c) (chars line.text)

-- how many there are on some pages
abbrev pub hollow_on : List PagePlan → ℕ
hollow_on pages = sum_by (λ (page : PagePlan). sum_by hollow_in page.texts) pages

-- the size of the first name of more than 58 characters
abbrev pub long_in : List Choice → Option ℕ
long_in choices = find (λ size. nat_lt 58 size) (map (λ (choice : Choice). size_of choice.name) choices)

-- a contest whose block fits a column
abbrev pub height_checked : Paper → Contest → Result (Unit {0}) LayoutFault
height_checked paper contest =
    if nat_lt (contest_rows paper) (height_of contest) then Err (ContestTooTall contest.id (height_of contest))
    else Ok tt

-- a contest, unless one of its names is too long: then its height is looked at
abbrev pub names_checked : Paper → Contest → Option ℕ → Result (Unit {0}) LayoutFault
names_checked paper contest (Some size) = Err (TextTooLong contest.id size)
names_checked paper contest None = height_checked paper contest

-- a contest that can be printed, or why it can't
unfoldable pub contest_checked : Paper → Contest → Result (Unit {0}) LayoutFault
contest_checked paper contest = names_checked paper contest (long_in contest.choices)

-- contests that can be printed, or why the first that can't can't
abbrev pub contests_checked : Paper → List Contest → List ℕ → Result (Unit {0}) LayoutFault
contests_checked paper contests [] = Ok tt
contests_checked paper contests (number ∷ numbers) =
    contest_checked paper (contest_at contests number) >>= (λ _. contests_checked paper contests numbers)

-- the number of pages of a card
abbrev pub pages_of : Paper → List Contest → List ℕ → ℕ
pages_of paper contests numbers = even_up (page_of (end_from paper contests top numbers))

-- the pages with the count of hollow boxes
abbrev pub card_plan : ℕ → List PagePlan → CardPlan
card_plan number pages = record { card = number; pages = pages; hollow = hollow_on pages }

-- a card with so many pages: a page's number has to be below 64
abbrev pub plan_with : Election → ℕ → Card → List ℕ → ℕ → Result CardPlan LayoutFault
plan_with election number card numbers pages =
    if nat_lt 63 pages then Err (TooManyPages pages)
    else
    Ok (card_plan number
    (page_plans election card (blocks_from election.paper election.contests top numbers) pages))

-- a card of those contests, if each of them can be printed
abbrev pub plan_checked : Election → ℕ → Card → List ℕ → Result CardPlan LayoutFault
plan_checked election number card numbers =
    contests_checked election.paper election.contests numbers
    >>= (λ _. plan_with election number card numbers (pages_of election.paper election.contests numbers))

-- a card with its contests
abbrev pub plan_of_card : Election → ℕ → Result CardPlan LayoutFault
plan_of_card election number =
    plan_checked election number (card_at election number) (contests_of_card election number)

-- the plan of the card with a number, or the first cause why it can't be printed
unfoldable pub plan_of : Election → ℕ → Result CardPlan LayoutFault
plan_of election number =
    if nat_lt number (length (cards_of election)) then plan_of_card election number
    else Err (NoCard (length (cards_of election)))

-- a page with a number of lines of at most 100 characters that its count of hollow boxes can't pass
pub record IsModest (page : PagePlan) : Type 0 where
  pub few : length page.texts ≤ 400000
  pub short : All (λ (line : TextLine). size_of line.text ≤ 100) page.texts
