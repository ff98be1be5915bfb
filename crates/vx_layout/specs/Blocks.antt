-- A contest's block: title, description, how many to vote for, and a row for each option.
use Rattle.std.specs.Prelude.{◌≡◌, ◌≤◌, ◌⊎◌, ℕ, ◌+◌, ◌++◌, List, [], All, map, length, slice_get, if◌then◌else◌, codes}
use Rattle.std.specs.Fmt.{decimal}
use Rattle.std.specs.List.{flat_map, range_with_len}
use Rattle.std.specs.Option.{option_map_or}
use Rattle.vx_grid.specs.declared.paper.Paper.{Paper}
use Rattle.vx_grid.specs.Grid.{contest_rows}
use Rattle.vx_election_model.specs.declared.choice.Choice.{Choice}
use Rattle.vx_election_model.specs.declared.contest.Contest.{Contest}
use Rattle.vx_election_model.specs.Options.{options_of}
use Rattle.vx_layout.specs.declared.bubbles.Bubble.{Bubble}
use Rattle.vx_layout.specs.declared.lines.TextLine.{TextLine}
use Rattle.vx_layout.specs.Lines.{size_of, rows_of, lines_at}

-- what stands between the title and the line with the seats: only a yes/no contest has it
abbrev pub description_of : Contest → List ℕ
description_of contest = if contest.is_yes_no then contest.description else []

-- how many options a voter may mark
abbrev pub seats_line : Contest → List ℕ
seats_line contest = codes "Vote for " ++ decimal contest.seats

-- what stands beside the bubble of an option: a choice's label, and for a write-in slot its name
abbrev pub label_at : Contest → ℕ → List ℕ
label_at contest option =
    option_map_or (λ (choice : Choice). choice.label) (slice_get contest.choices option) (codes "Write-in")

-- the rows above those of the options
abbrev pub heading_rows : Contest → ℕ
heading_rows contest = rows_of contest.title + rows_of (description_of contest) + 1

-- the rows of a block
abbrev pub height_of : Contest → ℕ
height_of contest = heading_rows contest + options_of contest

-- the lines above those of the options, of a block whose first row is a grid row
abbrev pub heading_lines : Paper → Contest → ℕ → ℕ → List TextLine
heading_lines paper contest col row =
    lines_at paper col row contest.title
    ++ lines_at paper col (row + rows_of contest.title) (description_of contest)
    ++ lines_at paper col (row + rows_of contest.title + rows_of (description_of contest)) (seats_line contest)

-- the lines of an option
abbrev pub option_lines : Paper → Contest → ℕ → ℕ → ℕ → List TextLine
option_lines paper contest col row option =
    lines_at paper col (row + heading_rows contest + option) (label_at contest option)

-- the lines of all options, in their order
abbrev pub lines_of_options : Paper → Contest → ℕ → ℕ → List TextLine
lines_of_options paper contest col row =
    flat_map (option_lines paper contest col row) (range_with_len 0 (options_of contest))

-- the lines of a block, from the top
unfoldable pub block_lines : Paper → Contest → ℕ → ℕ → List TextLine
block_lines paper contest col row = heading_lines paper contest col row ++ lines_of_options paper contest col row

-- the bubble of an option of a contest, in a block whose first row is a grid row
abbrev pub option_bubble : ℕ → Contest → ℕ → ℕ → ℕ → Bubble
option_bubble number contest col row option =
    record { contest = number; option = option; col = col; row = row + heading_rows contest + option }

-- the bubbles of a block, one for each option, in their order
unfoldable pub block_bubbles : ℕ → Contest → ℕ → ℕ → List Bubble
block_bubbles number contest col row =
    map (option_bubble number contest col row) (range_with_len 0 (options_of contest))

-- the sizes that a valid contest keeps to
pub record HasSizes (contest : Contest) : Type 0 where
  pub title : size_of contest.title ≤ 256
  pub description : size_of contest.description ≤ 10000
  pub seats : contest.seats ≤ 50
  pub choices : length contest.choices ≤ 100
  pub names : All (λ (choice : Choice). size_of choice.name ≤ 256) contest.choices
  pub labels : All (λ (choice : Choice). (size_of choice.label ≤ 58) ⊎ (choice.label ≡ choice.name)) contest.choices

-- the labels of a contest's choices fit a row each
abbrev pub LabelsFit : Contest → Type 0
LabelsFit contest = All (λ (choice : Choice). size_of choice.label ≤ 58) contest.choices

-- a contest that can be printed on a paper: its labels fit a row each, and its block a column
pub record Fits (paper : Paper) (contest : Contest) : Type 0 where
  pub height : height_of contest ≤ contest_rows paper
  pub labels : LabelsFit contest
