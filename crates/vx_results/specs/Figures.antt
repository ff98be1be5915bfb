-- The figures of a summary: what is counted of the sheets that were added, by kind and unit, by batch, and by name.
use Rattle.std.specs.Prelude.{ℕ, ◌&&◌, ◌==◌, Bool, List, length, map, filter}
use Rattle.std.specs.List.{flat_map, list_any, range_with_len}
use Rattle.vx_election_model.specs.declared.election.Election.{Election}
use Rattle.vx_styles.specs.Cards.{cards_of, contests_of_card}
use Rattle.vx_events.specs.declared.event.Event.{Event}
use Rattle.vx_center.specs.Exports.{row_of}
use Rattle.vx_center.specs.Sheets.{Added, sheets_in}
use Rattle.vx_tally.specs.declared.report.CvrRecord.{CvrRecord}
use Rattle.vx_results.specs.Firsts.{Numbered}
use Rattle.vx_results.specs.Kinds.{kind_of}
use Rattle.vx_results.specs.Named.{named_on}
use Rattle.vx_results.specs.Report.{record_of, unit_at}
use Rattle.vx_results.specs.Waiting.{waiting_on}

-- the contests of each card
abbrev pub card_contests : Election → List (List ℕ)
card_contests election = map (contests_of_card election) (range_with_len 0 (length (cards_of election)))

-- whether a contest stands on a card of a unit
abbrev pub stands_on : Election → ℕ → ℕ → ℕ → Bool
stands_on election contest unit card =
    unit == unit_at election card && list_any (λ other. contest == other) (contests_of_card election card)

abbrev pub stands_in : Election → ℕ → ℕ → Bool
stands_in election contest unit = list_any (stands_on election contest unit) (range_with_len 0 (length (cards_of election)))

-- the units of precincts
abbrev pub precinct_units : Election → List ℕ
precinct_units election = range_with_len 1 (length election.precincts)

-- those on whose cards a contest stands
abbrev pub contest_units : Election → ℕ → List ℕ
contest_units election contest = filter (stands_in election contest) (precinct_units election)

-- a sheet of a kind in a unit
abbrev pub is_at : Election → ℕ → ℕ → Added → Bool
is_at election kind unit added = kind == kind_of added.sheet && unit == unit_at election added.sheet.card

module _ (election : Election) (kept : List Event) where
  -- the record of a sheet
  abbrev pub sheet_record : Added → CvrRecord
  sheet_record added = record_of election (row_of election kept added)

  module _ (sheets : List Added) where
    -- the records of those of a kind in a unit
    abbrev pub records_of : ℕ → ℕ → List CvrRecord
    records_of kind unit = map sheet_record (filter (is_at election kind unit) sheets)

    -- the batch of each, with 1
    abbrev pub batch_sheets : List Numbered
    batch_sheets = map (λ (added : Added). (added.key.batch, 1)) sheets

    -- the batch of each, with how many contests of it wait
    abbrev pub batch_waiting : List Numbered
    batch_waiting = map (λ (added : Added). (added.key.batch, length (waiting_on election kept added))) sheets

    -- the names in a contest
    abbrev pub names_of : ℕ → List Numbered
    names_of contest = flat_map (λ added. named_on election contest (row_of election kept added)) sheets

  -- the records of the sheets of a kind in a unit, in the order of adding
  abbrev pub records_at : ℕ → ℕ → List CvrRecord
  records_at kind unit = records_of (sheets_in kept) kind unit
