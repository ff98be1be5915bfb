-- What a sheet of a history has, for the counting of it.
use Rattle.std.proofs.Common.{◌≡◌, ℕ, ◌+◌, ◌<◌, ◌≤◌, Bool, true, false, cond, List, [], ◌∷◌, length, arith}
use Rattle.std.specs.Prelude.{filter}
use Rattle.std.proofs.lemmas.Option.{slice_get_within}
use Rattle.vx_grid.specs.declared.kind.Kind.{Kind}
use Rattle.vx_grid.specs.declared.kind.Kind.TheVariants.{Precinct, Absentee, Provisional, Other}
use Rattle.vx_rules.specs.declared.marks.SheetMarks.{SheetMarks}
use Rattle.vx_election_model.specs.declared.election.Election.{Election}
use Rattle.vx_election_model.specs.Valid.{IsValid}
use Rattle.vx_events.specs.declared.event.Event.{Event}
use Rattle.vx_center.specs.declared.rows.ExportSheet.{ExportSheet}
use Rattle.vx_center.specs.Exports.{row_of}
use Rattle.vx_center.specs.Histories.{IsHistory}
use Rattle.vx_center.specs.Places.{no_sheet, sheet_at}
use Rattle.vx_center.specs.Sheets.{Added, sheets_in}
use Rattle.vx_cvr.specs.Report.{HasItsContests, IsOfElection}
use Rattle.vx_tally.specs.Totals.{IsCountable}
use Rattle.vx_results.specs.Counted.{left_on, unit_count}
use Rattle.vx_results.specs.Figures.{is_at, records_of, sheet_record}
use Rattle.vx_results.specs.Fitting.{IsFinalAt, IsRow}
use Rattle.vx_results.specs.Kinds.{kind_of, number_of}
use Rattle.vx_results.specs.Report.{contest_at, record_of, unit_at}
use Rattle.vx_results.specs.Waiting.{waiting_on}
use Rattle.vx_results.proofs.Counts.{sheet-parts}
use Rattle.vx_results.proofs.Each.{all-each, each-weaker, length-mapped}
use Rattle.vx_results.proofs.Few.{sheet-few}
use Rattle.vx_results.proofs.Fitting.{added-row}
use Rattle.vx_results.proofs.Kept.{IsAdded, sheets-are}
use Rattle.vx_results.proofs.Precincts.{PrecinctsAreThere}
use Rattle.vx_results.proofs.Sized.{record-countable}

number-low : (kind : Kind) → number_of kind < 4
number-low Precinct = omega arith
number-low Absentee = omega arith
number-low Provisional = omega arith
number-low Other = omega arith

pub kind_low : (sheet : SheetMarks) → kind_of sheet < 8
kind_low sheet = by sheet.test (number-low sheet.kind)
  where
    by : (b : Bool) → number_of sheet.kind < 4 → number_of sheet.kind + cond b 4 0 < 8
    by true low = omega (arith, low)
    by false low = omega (arith, low)

chosen-few : {X : Type 0} (test : X → Bool) (xs : List X) → length (filter test xs) ≤ length xs
chosen-few test [] = omega arith
chosen-few {X = X} test (x ∷ xs) = by (test x) (chosen-few test xs)
  where
    by : (b : Bool) → length (filter test xs) ≤ length xs → length (cond b (x ∷ filter test xs) (filter test xs)) ≤ length (x ∷ xs)
    by true few = omega (arith, few)
    by false few = omega (arith, few)

pub records_few : (election : Election) (kept : List Event) (sheets : List Added) (kind unit : ℕ)
    → length (records_of election kept sheets kind unit) ≤ length sheets
records_few election kept sheets kind unit =
    omega (arith, length-mapped (sheet_record election kept) (filter (is_at election kind unit) sheets), chosen-few (is_at election kind unit) sheets)

pub row_contests : (election : Election) (row : ExportSheet) → IsRow election row → HasItsContests election row
row_contests election row is =
    all-each (IsOfElection election) row.finals
    (each-weaker (IsFinalAt election) (IsOfElection election) row.finals
    (λ final at. slice_get_within election.contests final.contest (contest_at election final) at.there) is.finals)

module _ (election : Election) (kept : List Event) (valid : IsValid election) (history : IsHistory election kept) (place : ℕ) where
  abbrev added : Added
  added = sheet_at kept place

  abbrev row : ExportSheet
  row = row_of election kept added

  is-added : place < length (sheets_in kept) → IsAdded election added
  is-added less = all-each (IsAdded election) (sheets_in kept) (sheets-are election kept history) place no_sheet less

  is-row : place < length (sheets_in kept) → IsRow election row
  is-row less = added-row election kept valid history added (is-added less)

  pub its_contests : place < length (sheets_in kept) → HasItsContests election row
  its_contests less = row_contests election row (is-row less)

  pub is_countable : place < length (sheets_in kept) → IsCountable (record_of election row)
  is_countable less = record-countable election valid row (is-row less)

  pub finals_few : length row.finals ≤ length added.sheet.contests
  finals_few = omega (arith, sheet-parts election kept added)

  pub contests_few : place < length (sheets_in kept) → length added.sheet.contests ≤ 1000
  contests_few less = omega (arith, sheet-few election added.sheet valid (is-added less).1)

  pub left_waits : left_on added.sheet row ≡ length (waiting_on election kept added)
  left_waits = omega (arith, sheet-parts election kept added)

  pub unit_there : PrecinctsAreThere → place < length (sheets_in kept) → unit_at election added.sheet.card < unit_count election
  unit_there law less = omega (arith, law election added.sheet.card valid (is-row less).card)
