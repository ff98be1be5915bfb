-- Where the lines and the bubbles of a page stand.
use Rattle.std.proofs.Common.{◌≡◌, ℕ, ◌+◌, ◌-◌, ◌*◌, ◌/◌, ◌%◌, ◌≤◌, ◌<◌, ◌⊎◌, inl, inr, ⊎_elim, List, [], ◌∷◌, ◌++◌, length, refl, arith, ◌==◌, length-append}
use Rattle.std.specs.Prelude.{All}
use Rattle.std.specs.List.{flat_map, range_with_len}
use Rattle.std.proofs.lemmas.Bool.{cases_lt}
use Rattle.std.proofs.lemmas.List.Elements.{All-nil, All-cons, All-append, All-filter, All-weaker, All-get_or}
use Rattle.std.proofs.lemmas.List.Sums.{length-filter, count_by-le-length}
use Rattle.vx_base.proofs.Lists.{All-flat_map, length-flat_map_le}
use Rattle.vx_grid.specs.declared.paper.Paper.{Paper}
use Rattle.vx_grid.specs.Grid.{y_of, first_code_row, foot_row}
use Rattle.vx_grid.proofs.Papers.{last-row_low, first-y_low}
use Rattle.vx_election_model.specs.declared.contest.Contest.{Contest}
use Rattle.vx_election_model.specs.declared.election.Election.{Election}
use Rattle.vx_election_model.specs.Options.{options_of}
use Rattle.vx_styles.specs.declared.card.Card.{Card}
use Rattle.vx_layout.specs.declared.lines.TextLine.{TextLine}
use Rattle.vx_layout.specs.declared.flow.Block.{Block}
use Rattle.vx_layout.specs.Lines.{size_of, rows_of, lines_of, placed_line, lines_at}
use Rattle.vx_layout.specs.Blocks.{HasSizes, LabelsFit, height_of, heading_rows, description_of, seats_line, label_at, heading_lines, option_lines, option_bubble, block_lines, block_bubbles}
use Rattle.vx_layout.specs.Flow.{contest_at, no_contest, page_of, column_of, row_of, IsPlaced}
use Rattle.vx_layout.specs.Pages.{IsOnGrid, NamesOption}
use Rattle.vx_layout.specs.Plan.{bubbles_of, texts_of, on_page, foot_y, foot_line, page_plan, page_plans, IsModest}
use Rattle.vx_layout.specs.Zones.{line_cells}
use Rattle.vx_layout.proofs.Extents.{Lies, lies-cells}
use Rattle.vx_layout.proofs.Labels.{size-seats}
use Rattle.vx_layout.proofs.LineSizes.{size-line, size-foot, size-label, length-block}
use Rattle.vx_layout.proofs.Made.{All-range, All-made}

-- a line of a page: short, its cells in the inner region, below the reserved zones and above the page
-- code, and beside the bubbles of each text column or below all of them
pub record IsLaid (paper : Paper) (line : TextLine) : Type 0 where
  pub short : size_of line.text ≤ 100
  pub left : ℕ
  pub right : ℕ
  pub above : ℕ
  pub below : ℕ
  pub lies : Lies (line_cells line) left right above below
  pub from_left : 178 ≤ left
  pub from_right : right ≤ 1522
  pub from_reserved : y_of paper 5 + 22 ≤ above
  pub from_code : below ≤ y_of paper (first_code_row paper) - 22
  pub beside : (column : ℕ) → (286 + 432 * column ≤ left) ⊎ ((right ≤ 214 + 432 * column) ⊎ (foot_y paper ≤ above))

-- a line of a text column
laid-typed : (paper : Paper) (column row : ℕ) (text : List ℕ) (k : ℕ) → column < 3 → 6 ≤ row → row + k / 2 < foot_row paper → IsLaid paper (placed_line paper (4 + 9 * column) row text k)
laid-typed paper column row text k few low high =
    let line = placed_line paper (4 + 9 * column) row text k in
    record {
      short = omega (arith, size-line text k);
      left = line.x;
      right = line.x + 12 * 29;
      above = line.y;
      below = line.y + 20;
      lies = lies-cells line 29 (size-line text k);
      from_left = omega arith;
      from_right = omega (arith, few);
      from_reserved = omega (arith, low, first-y_low paper);
      from_code = omega (arith, high, first-y_low paper, last-row_low paper);
      beside = λ other. ⊎_elim (λ less. inr (inl (omega (arith, less)))) (λ more. inl (omega (arith, more))) (cases_lt column other);
    }

-- the foot line
laid-foot : (paper : Paper) (line : TextLine) → line.x ≡ 290 → line.y ≡ foot_y paper → size_of line.text ≤ 100 → IsLaid paper line
laid-foot paper line x y size = record {
  short = size;
  left = line.x;
  right = line.x + 12 * 100;
  above = line.y;
  below = line.y + 20;
  lies = lies-cells line 100 size;
  from_left = omega (arith, x);
  from_right = omega (arith, x);
  from_reserved = omega (arith, y, last-row_low paper);
  from_code = omega (arith, y, last-row_low paper);
  beside = λ other. inr (inr (omega (arith, y)));
}

-- the lines of a text in a text column
laid-lines : (paper : Paper) (column row : ℕ) (text : List ℕ) → column < 3 → 6 ≤ row → row + rows_of text ≤ foot_row paper → All (IsLaid paper) (lines_at paper (4 + 9 * column) row text)
unfolding lines_at
laid-lines paper column row text few low high =
    All-made (IsLaid paper) (placed_line paper (4 + 9 * column) row text) 0 (lines_of text) (λ k from h.
    laid-typed paper column row text k few (omega (arith, low)) (omega (arith, h, high)))

-- the lines of a block in a text column
laid-block : (paper : Paper) (contest : Contest) (column row : ℕ) → HasSizes contest → LabelsFit contest → column < 3 → 6 ≤ row → row + height_of contest ≤ foot_row paper → All (IsLaid paper) (block_lines paper contest (4 + 9 * column) row)
unfolding block_lines
laid-block paper contest column row sizes fits few low high =
    let col = 4 + 9 * column in
    let asked = row + rows_of contest.title in
    let seated = asked + rows_of (description_of contest) in
    let title = lines_at paper col row contest.title in
    let description = lines_at paper col asked (description_of contest) in
    let seats = lines_at paper col seated (seats_line contest) in
    All-append (IsLaid paper) (heading_lines paper contest col row) (flat_map (option_lines paper contest col row) (range_with_len 0 (options_of contest)))
    (All-append (IsLaid paper) (title ++ description) seats
    (All-append (IsLaid paper) title description
    (laid-lines paper column row contest.title few low (omega (arith, high)))
    (laid-lines paper column asked (description_of contest) few (omega (arith, low)) (omega (arith, high))))
    (laid-lines paper column seated (seats_line contest) few (omega (arith, low)) (omega (arith, high, size-seats contest sizes.seats))))
    (All-flat_map (IsLaid paper) (option_lines paper contest col row) (range_with_len 0 (options_of contest))
    (All-range (λ option. All (IsLaid paper) (option_lines paper contest col row option)) 0 (options_of contest) (λ option from h.
    laid-lines paper column (row + heading_rows contest + option) (label_at contest option) few (omega (arith, low)) (omega (arith, high, h, size-label contest option fits)))))

-- the bubbles of a block where it stands
grid-block : (paper : Paper) (contests : List Contest) (block : Block) → IsPlaced paper contests block → All (IsOnGrid paper) (bubbles_of contests block)
unfolding block_bubbles
grid-block paper contests block is =
    let contest = contest_at contests block.contest in
    All-made (IsOnGrid paper) (option_bubble block.contest contest (column_of block.spot) (row_of block.spot)) 0 (options_of contest) (λ option from h. record {
      column = block.spot.column % 3;
      few = omega arith;
      col = refl;
      low = omega arith;
      high = omega (arith, is.room, h);
    })

names-block : (paper : Paper) (contests : List Contest) (block : Block) → IsPlaced paper contests block → All (NamesOption contests) (bubbles_of contests block)
unfolding block_bubbles
names-block paper contests block is =
    let contest = contest_at contests block.contest in
    All-made (NamesOption contests) (option_bubble block.contest contest (column_of block.spot) (row_of block.spot)) 0 (options_of contest)
    (λ option from h. record { contest = is.there; option = omega (arith, h) })

-- a fact of each placed block is one of each block of a page
All-on_page : (P : Block → Type 0) (paper : Paper) (contests : List Contest) (page : ℕ) (blocks : List Block) → All (IsPlaced paper contests) blocks → ((block : Block) → IsPlaced paper contests block → P block) → All P (on_page page blocks)
All-on_page P paper contests page blocks placed each =
    All-weaker (IsPlaced paper contests) P each (on_page page blocks) (All-filter (λ (block : Block). page_of block.spot == page) (IsPlaced paper contests) blocks placed)

module _ (election : Election) (page : ℕ) (blocks : List Block) (placed : All (IsPlaced election.paper election.contests) blocks) where
  -- the bubbles of a page
  pub grid-page : All (IsOnGrid election.paper) (flat_map (bubbles_of election.contests) (on_page page blocks))
  grid-page =
      All-flat_map (IsOnGrid election.paper) (bubbles_of election.contests) (on_page page blocks)
      (All-on_page (λ (block : Block). All (IsOnGrid election.paper) (bubbles_of election.contests block)) election.paper election.contests page blocks placed (grid-block election.paper election.contests))

  pub names-page : All (NamesOption election.contests) (flat_map (bubbles_of election.contests) (on_page page blocks))
  names-page =
      All-flat_map (NamesOption election.contests) (bubbles_of election.contests) (on_page page blocks)
      (All-on_page (λ (block : Block). All (NamesOption election.contests) (bubbles_of election.contests block)) election.paper election.contests page blocks placed (names-block election.paper election.contests))

  -- the lines of a page
  pub laid-page : (card : Card) (pages : ℕ) → All HasSizes election.contests → All (IsLaid election.paper) (page_plan election card blocks pages page).texts
  laid-page card pages sizes =
      All-append (IsLaid election.paper) (flat_map (texts_of election.paper election.contests) (on_page page blocks)) (foot_line election card page pages ∷ [])
      (All-flat_map (IsLaid election.paper) (texts_of election.paper election.contests) (on_page page blocks)
      (All-on_page (λ (block : Block). All (IsLaid election.paper) (texts_of election.paper election.contests block)) election.paper election.contests page blocks placed (λ block is.
      laid-block election.paper (contest_at election.contests block.contest) (block.spot.column % 3) (6 + block.spot.row)
      (All-get_or HasSizes election.contests block.contest no_contest is.there sizes) is.fits.labels (omega arith) (omega arith) (omega (arith, is.room, last-row_low election.paper)))))
      (All-cons (IsLaid election.paper) (foot_line election card page pages) [] (laid-foot election.paper (foot_line election card page pages) refl refl (size-foot election card page pages)) (All-nil (IsLaid election.paper)))

  -- a page of at most 500 blocks is modest
  modest-page : (card : Card) (pages : ℕ) → All HasSizes election.contests → length blocks ≤ 500 → IsModest (page_plan election card blocks pages page)
  modest-page card pages sizes few =
      let here = on_page page blocks in
      let each = All-on_page (λ (block : Block). length (texts_of election.paper election.contests block) ≤ 656) election.paper election.contests page blocks placed
      (λ block is. length-block election.paper (contest_at election.contests block.contest) (column_of block.spot) (row_of block.spot)
      (All-get_or HasSizes election.contests block.contest no_contest is.there sizes) is.fits.labels) in
      record {
        few = omega (
          arith,
          length-append (flat_map (texts_of election.paper election.contests) here) (foot_line election card page pages ∷ []),
          length-flat_map_le (texts_of election.paper election.contests) 656 here each,
          length-filter (λ (block : Block). page_of block.spot == page) blocks,
          count_by-le-length (λ (block : Block). page_of block.spot == page) blocks,
        );
        short =
            All-weaker (IsLaid election.paper) (λ (line : TextLine). size_of line.text ≤ 100) (λ line is. is.short)
            (page_plan election card blocks pages page).texts (laid-page card pages sizes);
      }

-- so is each page of a card
pub modest-pages : (election : Election) (card : Card) (blocks : List Block) (pages : ℕ) → All HasSizes election.contests → All (IsPlaced election.paper election.contests) blocks → length blocks ≤ 500 → All IsModest (page_plans election card blocks pages)
modest-pages election card blocks pages sizes placed few =
    All-made IsModest (page_plan election card blocks pages) 1 pages (λ page low high. modest-page election page blocks placed card pages sizes few)
