-- How many characters the lines of a page have, and how many lines a block has.
use Rattle.std.proofs.Common.{◌≡◌, ℕ, zero, suc, ◌+◌, ◌*◌, ◌≤◌, List, [], ◌∷◌, ◌++◌, length, take, drop, chars, arith, length-append, length-take, Bool, true, false, cond}
use Rattle.std.specs.Prelude.{All, slice_get, codes}
use Rattle.std.specs.List.{flat_map, range_with_len}
use Rattle.std.specs.Option.{option_map_or}
use Rattle.std.proofs.lemmas.List.Elements.{All-head, All-tail}
use Rattle.std.proofs.lemmas.List.FromFn.{length-map-range_with_len, length-range_with_len}
use Rattle.vx_base.proofs.Lists.{length-flat_map_le}
use Rattle.vx_base.proofs.Booleans.{either-le}
use Rattle.vx_grid.specs.declared.paper.Paper.{Paper}
use Rattle.vx_election_model.specs.declared.choice.Choice.{Choice}
use Rattle.vx_election_model.specs.declared.contest.Contest.{Contest}
use Rattle.vx_election_model.specs.declared.election.Election.{Election}
use Rattle.vx_election_model.specs.Options.{options_of}
use Rattle.vx_styles.specs.declared.card.Card.{Card}
use Rattle.vx_layout.specs.Lines.{size_of, rows_of, lines_of, line_of, placed_line, lines_at}
use Rattle.vx_layout.specs.Blocks.{HasSizes, LabelsFit, description_of, seats_line, label_at, heading_rows, option_lines, block_lines}
use Rattle.vx_layout.specs.Plan.{foot_text, foot_line}
use Rattle.vx_layout.proofs.Bytes.{length-chars_encodes}
use Rattle.vx_layout.proofs.Labels.{size-write_in, size-seats, size-nil}
use Rattle.vx_layout.proofs.Made.{All-range}

-- a line has at most 29 characters
pub size-line : (text : List ℕ) (k : ℕ) → size_of (line_of text k) ≤ 29
size-line text k = omega (arith, length-chars_encodes (take 29 (drop (k * 29) (chars text))), length-take 29 (drop (k * 29) (chars text)))

-- the foot line has at most 100
pub size-foot : (election : Election) (card : Card) (page pages : ℕ) → size_of (foot_line election card page pages).text ≤ 100
size-foot election card page pages =
    omega (arith, length-chars_encodes (take 100 (chars (foot_text election card page pages))), length-take 100 (chars (foot_text election card page pages)))

label-in : (choices : List Choice) (option : ℕ) → All (λ (choice : Choice). size_of choice.label ≤ 58) choices → size_of (option_map_or (λ (choice : Choice). choice.label) (slice_get choices option) (codes "Write-in")) ≤ 58
label-in [] option fit = omega (arith, size-write_in)
label-in (choice ∷ choices) zero fit = All-head (λ (choice : Choice). size_of choice.label ≤ 58) choice choices fit
label-in (choice ∷ choices) (suc option) fit = label-in choices option (All-tail (λ (choice : Choice). size_of choice.label ≤ 58) choice choices fit)

-- a label fits a row
pub size-label : (contest : Contest) (option : ℕ) → LabelsFit contest → size_of (label_at contest option) ≤ 58
size-label contest option fits = label-in contest.choices option fits

length-lines : (paper : Paper) (col row : ℕ) (text : List ℕ) → length (lines_at paper col row text) ≡ lines_of text
unfolding lines_at
length-lines paper col row text = length-map-range_with_len (placed_line paper col row text) 0 (lines_of text)

-- a valid contest has at most 150 options
pub few-options : (contest : Contest) → HasSizes contest → options_of contest ≤ 150
few-options contest sizes = omega (arith, sizes.choices, either-le contest.write_ins contest.seats 0 50 sizes.seats (omega arith))

either-size : (b : Bool) (text : List ℕ) → size_of text ≤ 10000 → size_of (cond b text []) ≤ 10000
either-size true text h = h
either-size false text h = omega (arith, size-nil)

-- what is asked beside the title has at most 10,000 characters
pub size-description : (contest : Contest) → HasSizes contest → size_of (description_of contest) ≤ 10000
size-description contest sizes = either-size contest.is_yes_no contest.description sizes.description

few-label_lines : (paper : Paper) (contest : Contest) (col row option : ℕ) → LabelsFit contest → length (option_lines paper contest col row option) ≤ 2
few-label_lines paper contest col row option fits =
    omega (arith, length-lines paper col (row + heading_rows contest + option) (label_at contest option), size-label contest option fits)

-- a block has at most 656 lines
pub length-block : (paper : Paper) (contest : Contest) (col row : ℕ) → HasSizes contest → LabelsFit contest → length (block_lines paper contest col row) ≤ 656
unfolding block_lines
length-block paper contest col row sizes fits =
    let title = lines_at paper col row contest.title in
    let asked = lines_at paper col (row + rows_of contest.title) (description_of contest) in
    let seats = lines_at paper col (row + rows_of contest.title + rows_of (description_of contest)) (seats_line contest) in
    let options = flat_map (option_lines paper contest col row) (range_with_len 0 (options_of contest)) in
    let each = length-flat_map_le (option_lines paper contest col row) 2 (range_with_len 0 (options_of contest))
    (All-range (λ option. length (option_lines paper contest col row option) ≤ 2) 0 (options_of contest) (λ option low high. few-label_lines paper contest col row option fits)) in
    omega (
      arith,
      length-append (title ++ asked ++ seats) options,
      length-append (title ++ asked) seats,
      length-append title asked,
      length-lines paper col row contest.title,
      length-lines paper col (row + rows_of contest.title) (description_of contest),
      length-lines paper col (row + rows_of contest.title + rows_of (description_of contest)) (seats_line contest),
      each,
      length-range_with_len 0 (options_of contest),
      few-options contest sizes,
      size-description contest sizes,
      sizes.title,
      size-seats contest sizes.seats,
    )
