-- What the report of a count says, as a value: its units, its contests with their selections, and a record for each row.
use Rattle.std.specs.Prelude.{ℕ, ◌+◌, ◌<◌, ◌^◌, List, ◌∷◌, map, codes, slice_index_or}
use Rattle.std.specs.List.{range_with_len}
use Rattle.vx_election_model.specs.declared.contest.Contest.{Contest}
use Rattle.vx_election_model.specs.declared.election.Election.{Election}
use Rattle.vx_election_model.specs.declared.named.Named.{Named}
use Rattle.vx_election_model.specs.Options.{options_of}
use Rattle.vx_styles.specs.Cards.{card_at}
use Rattle.vx_events.specs.declared.event.Event.{Event}
use Rattle.vx_center.specs.declared.rows.ExportSheet.{ExportSheet}
use Rattle.vx_center.specs.declared.rows.Final.{Final}
use Rattle.vx_cvr.specs.Names.{precinct_name, contest_name, selection_name, sheet_name}
use Rattle.vx_cvr.specs.Votes.{overvotes, undervotes, candidate_of, votes_of}
use Rattle.vx_cvr.specs.Rows.{rows_of}
use Rattle.vx_cvr.specs.Report.{no_contest, voted_for}
use Rattle.vx_tally.specs.declared.report.Report.{Report}
use Rattle.vx_tally.specs.declared.report.ReportContest.{ReportContest}
use Rattle.vx_tally.specs.declared.report.CvrRecord.{CvrRecord}
use Rattle.vx_tally.specs.declared.report.RecordContest.{RecordContest}
use Rattle.vx_tally.specs.declared.report.VoteRow.{VoteRow}

-- the units: all of the election, and its precincts
abbrev pub units_of : Election → List (List ℕ)
units_of election = codes "scope" ∷ map (λ (named : Named). precinct_name named.id) election.precincts

-- the selections of a contest: one for each option
abbrev pub selections_of : Contest → List (List ℕ)
selections_of contest = map (selection_name contest.id) (range_with_len 0 (options_of contest))

-- a contest with no more options than a number of 32 bits tells, as those of a valid election are
abbrev pub HasFewOptions : Contest → Type 0
HasFewOptions contest = options_of contest < 2 ^ 32

abbrev pub contest_of : Contest → ReportContest
contest_of contest = record { id = contest_name contest.id; selections = selections_of contest }

-- the votes of a selected option, for its own selection or for that of the candidate whom the slot names
abbrev pub vote_of : Contest → Final → ℕ → VoteRow
vote_of contest final option = record {
  selection = voted_for option (candidate_of contest final option);
  votes = votes_of contest final option;
}

-- an exported contest of a sheet
abbrev pub counted_of : Contest → Final → RecordContest
counted_of contest final = record {
  contest = final.contest;
  over = overvotes contest final;
  under = undervotes contest final;
  votes = map (vote_of contest final) final.selected;
}

-- the contest of the election that it is
abbrev pub contest_at : Election → Final → Contest
contest_at election final = slice_index_or election.contests final.contest no_contest

abbrev pub counted_in : Election → Final → RecordContest
counted_in election final = counted_of (contest_at election final) final

-- the unit of a card: its precinct
abbrev pub unit_at : Election → ℕ → ℕ
unit_at election card = (card_at election card).precinct + 1

-- the unit of a sheet, the precinct of its card
abbrev pub unit_of : Election → ExportSheet → ℕ
unit_of election row = unit_at election row.card

-- a sheet
abbrev pub record_of : Election → ExportSheet → CvrRecord
record_of election row = record {
  unique = sheet_name row.key;
  unit = unit_of election row;
  contests = map (counted_in election) row.finals;
}

-- what the report of rows says
abbrev pub report_of_rows : Election → List ExportSheet → Report
report_of_rows election rows = record {
  units = units_of election;
  contests = map contest_of election.contests;
  records = map (record_of election) rows;
}

-- what the report of kept events says
abbrev pub report_of_events : Election → List Event → Report
report_of_events election kept = report_of_rows election (rows_of election kept)

-- the ids of records
abbrev pub ids_of : List CvrRecord → List (List ℕ)
ids_of records = map (λ (one : CvrRecord). one.unique) records
