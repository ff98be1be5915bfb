-- What `summary` writes: sheets by unit and kind, the batches, and then for each contest its votes, over votes and
-- undervotes by unit and kind and the names that were written in, and last how many contests wait.
use Rattle.std.specs.Prelude.{ℕ, List, [], ◌∷◌, ◌++◌, length, map, codes, slice_index_or}
use Rattle.std.specs.Fmt.{decimal}
use Rattle.std.specs.List.{flat_map}
use Rattle.vx_election_model.specs.declared.election.Election.{Election}
use Rattle.vx_events.specs.declared.event.Event.{Event}
use Rattle.vx_center.specs.Sheets.{sheets_in}
use Rattle.vx_tally.specs.declared.report.ReportContest.{ReportContest}
use Rattle.vx_tally.specs.declared.report.CvrRecord.{CvrRecord}
use Rattle.vx_tally.specs.Totals.{Summed, summed_of}
use Rattle.vx_audit.specs.Walk.{by_place}
use Rattle.vx_results.specs.declared.groups.Group.{Group}
use Rattle.vx_results.specs.Figures.{batch_sheets, batch_waiting, contest_units, names_of, precinct_units, records_at}
use Rattle.vx_results.specs.Firsts.{sum_for, texts_of}
use Rattle.vx_results.specs.Groups.{groups_of}
use Rattle.vx_results.specs.Kinds.{kinds_in, word_at}
use Rattle.vx_results.specs.Report.{contest_of, units_of}
use Rattle.vx_results.specs.Results.{waiting_line}
use Rattle.vx_results.specs.Waiting.{waiting_in}

-- `sheets UNIT KIND COUNT`
abbrev pub sheets_line : List ℕ → List ℕ → ℕ → List ℕ
sheets_line unit kind count = codes "sheets " ++ unit ++ 32 ∷ kind ++ 32 ∷ decimal count ++ 10 ∷ []

-- `batch BATCH sheets COUNT waiting COUNT`
abbrev pub batch_line : List ℕ → ℕ → ℕ → List ℕ
batch_line batch sheets waiting =
    codes "batch " ++ batch ++ codes " sheets " ++ decimal sheets ++ codes " waiting " ++ decimal waiting ++ 10 ∷ []

-- `votes CONTEST UNIT KIND SELECTION COUNT`
abbrev pub votes_line : List ℕ → List ℕ → List ℕ → List ℕ → ℕ → List ℕ
votes_line contest unit kind selection count =
    codes "votes " ++ contest ++ 32 ∷ unit ++ 32 ∷ kind ++ 32 ∷ selection ++ 32 ∷ decimal count ++ 10 ∷ []

-- `over CONTEST UNIT KIND COUNT`
abbrev pub over_line : List ℕ → List ℕ → List ℕ → ℕ → List ℕ
over_line contest unit kind count = codes "over " ++ contest ++ 32 ∷ unit ++ 32 ∷ kind ++ 32 ∷ decimal count ++ 10 ∷ []

-- `under CONTEST UNIT KIND COUNT`
abbrev pub under_line : List ℕ → List ℕ → List ℕ → ℕ → List ℕ
under_line contest unit kind count = codes "under " ++ contest ++ 32 ∷ unit ++ 32 ∷ kind ++ 32 ∷ decimal count ++ 10 ∷ []

-- `named CONTEST TEXT COUNT`
abbrev pub named_line : List ℕ → List ℕ → ℕ → List ℕ
named_line contest text count = codes "named " ++ contest ++ 32 ∷ text ++ 32 ∷ decimal count ++ 10 ∷ []

-- ---- the lines of groups, by the units' names and what the records of each group sum up to

module _ (units : List (List ℕ)) (sums : Group → Summed) where
  -- the name of the unit of a group
  abbrev pub unit_name : Group → List ℕ
  unit_name group = slice_index_or units group.unit []

  abbrev pub group_sheets : Group → List ℕ
  group_sheets group = sheets_line (unit_name group) (word_at group.kind) (sums group).count

  -- those of the contest at a place
  module _ (place : ℕ) (contest : ReportContest) where
    abbrev pub selection_votes : Group → ℕ → List ℕ → List ℕ
    selection_votes group selection name =
        votes_line contest.id (unit_name group) (word_at group.kind) name ((sums group).votes place selection)

    abbrev pub group_votes : Group → List ℕ
    group_votes group = by_place (selection_votes group) 0 contest.selections

    abbrev pub group_over : Group → List ℕ
    group_over group = over_line contest.id (unit_name group) (word_at group.kind) ((sums group).over place)

    abbrev pub group_under : Group → List ℕ
    group_under group = under_line contest.id (unit_name group) (word_at group.kind) ((sums group).under place)

    abbrev pub groups_text : List Group → List ℕ
    groups_text groups = flat_map group_votes groups ++ flat_map group_over groups ++ flat_map group_under groups

-- ---- the lines of texts, by their sums

abbrev pub batch_text : (List ℕ → ℕ) → (List ℕ → ℕ) → List ℕ → List ℕ
batch_text sheets waiting batch = batch_line batch (sheets batch) (waiting batch)

abbrev pub name_text : List ℕ → (List ℕ → ℕ) → List ℕ → List ℕ
name_text contest votes name = named_line contest name (votes name)

-- ---- the whole

module _ (election : Election) (kept : List Event) where
  -- the records of a group
  abbrev pub group_records : Group → List CvrRecord
  group_records group = records_at election kept group.kind group.unit

  -- what they sum up to
  abbrev pub group_sums : Group → Summed
  group_sums group = summed_of (group_records group)

  -- the units of all precincts, with each kind that has lines
  abbrev pub sheet_groups : List Group
  sheet_groups = groups_of (kinds_in (sheets_in kept)) (precinct_units election)

  -- the units on whose cards a contest stands, with each kind that has lines
  abbrev pub contest_groups : ℕ → List Group
  contest_groups place = groups_of (kinds_in (sheets_in kept)) (contest_units election place)

  abbrev pub sheets_text : List ℕ
  sheets_text = flat_map (group_sheets (units_of election) group_sums) sheet_groups

  abbrev pub batches_text : List ℕ
  batches_text =
      flat_map
      (batch_text (sum_for (batch_sheets election kept (sheets_in kept))) (sum_for (batch_waiting election kept (sheets_in kept))))
      (texts_of (batch_sheets election kept (sheets_in kept)))

  -- the lines of the contest at a place
  abbrev pub contest_text : ℕ → ReportContest → List ℕ
  contest_text place contest =
      groups_text (units_of election) group_sums place contest (contest_groups place)
      ++ flat_map (name_text contest.id (sum_for (names_of election kept (sheets_in kept) place)))
      (texts_of (names_of election kept (sheets_in kept) place))

  abbrev pub contests_text : List ℕ
  contests_text = by_place contest_text 0 (map contest_of election.contests)

-- the whole text
unfoldable pub summary_text : Election → List Event → List ℕ
summary_text election kept =
    sheets_text election kept ++ batches_text election kept ++ contests_text election kept
    ++ waiting_line (length (waiting_in election kept))
