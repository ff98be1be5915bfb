-- What is exported: for each sheet its exported contests and what they count as. This project's own rules.
use Rattle.std.specs.Prelude.{◌<◌, ℕ, All, Bool, if◌then◌else◌, List, [], ◌∷◌, length, map, slice_get, Option, Some, None, IsPermutation, IsSortedByKey}
use Rattle.std.specs.List.{flat_map}
use Rattle.std.specs.declared.cmp.Ordering.{Ordering}
use Rattle.std.specs.Ordering.{nat_cmp, ordering_then}
use Rattle.std.specs.Cmp.Lexicographic.{slice_cmp}
use Rattle.vx_election_model.specs.declared.contest.Contest.{Contest}
use Rattle.vx_election_model.specs.declared.election.Election.{Election}
use Rattle.vx_rules.specs.declared.marks.ContestMarks.{ContestMarks}
use Rattle.vx_rules.specs.declared.marks.SheetMarks.{SheetMarks}
use Rattle.vx_rules.specs.Reasons.{is_blank_sheet}
use Rattle.vx_events.specs.declared.decision.Decision.{Decision}
use Rattle.vx_events.specs.declared.event.Event.{Event}
use Rattle.vx_events.specs.declared.key.Key.{Key}
use Rattle.vx_center.specs.declared.rows.Final.{Final}
use Rattle.vx_center.specs.declared.rows.ExportSheet.{ExportSheet}
use Rattle.vx_center.specs.Sheets.{Added, sheets_in}
use Rattle.vx_center.specs.Places.{sheet_at}
use Rattle.vx_center.specs.declared.decided.Decided.{Decided}
use Rattle.vx_center.specs.Decisions.{decided_of, decisions_on, ruling_of}
use Rattle.vx_center.specs.Finals.{selected_by, is_overvoted, names_of}
use Rattle.vx_center.specs.Waiting.{is_decided, exports_by}

-- what a contest counts as
abbrev pub final_of : Contest → ContestMarks → List Decision → Final
final_of contest marks decisions = record {
  contest = marks.contest;
  selected = selected_by marks.states (ruling_of decisions);
  ruled = is_overvoted (ruling_of decisions);
  names = names_of contest decisions;
  read = marks.states;
  decided = is_decided decisions;
}

-- the final of a contest that the election has
abbrev pub final_in : ContestMarks → List Decision → Option Contest → List Final
final_in marks decisions None = []
final_in marks decisions (Some contest) = final_of contest marks decisions ∷ []

-- the final of a contest of a sheet of which so much was decided, if it is exported
abbrev pub final_if_exported : Election → Bool → List Decided → ContestMarks → List Final
final_if_exported election sheet_blank decided marks =
    if exports_by election sheet_blank decided marks
    then final_in marks (decisions_on marks.contest decided) (slice_get election.contests marks.contest)
    else []

-- the finals of the exported contests of a sheet, in order
abbrev pub finals_by : Election → SheetMarks → List Decided → List Final
finals_by election sheet decided = flat_map (final_if_exported election (is_blank_sheet sheet) decided) sheet.contests

-- what is exported of a sheet of which so much was decided
abbrev pub row_by : Election → Key → SheetMarks → List Decided → ExportSheet
row_by election key sheet decided = record {
  key = key;
  card = sheet.card;
  front = sheet.front;
  finals = finals_by election sheet decided;
}

-- what is exported of a sheet that was added
abbrev pub row_of : Election → List Event → Added → ExportSheet
row_of election kept added = row_by election added.key added.sheet (decided_of kept added.key)

-- what is exported of the sheet at a place in the order of adding
abbrev pub row_at : Election → List Event → ℕ → ExportSheet
row_at election kept place = row_of election kept (sheet_at kept place)

-- a place in the order of adding, with the key of the sheet there
abbrev pub keyed_at : List Event → ℕ → ℕ × Key
keyed_at kept place = (place, (sheet_at kept place).key)

-- the order of keys: the batch's bytes, then the number
abbrev pub key_order : Key → Key → Ordering
key_order one other = ordering_then (slice_cmp nat_cmp one.batch other.batch) (nat_cmp one.number other.number)

-- the rows of an export: one for each sheet, in the order of their keys
pub record AreExportRows (election : Election) (kept : List Event) (rows : List ExportSheet) : Type 0 where
  pub all : IsPermutation (map (row_of election kept) (sheets_in kept)) rows
  pub sorted : IsSortedByKey (λ (row : ExportSheet). row.key) key_order rows

-- the places of an export: at each stands a sheet, and the rows of these sheets are the export's
pub record AreExportPlaces (election : Election) (kept : List Event) (places : List ℕ) : Type 0 where
  pub there : All (λ place. place < length (sheets_in kept)) places
  pub rows : AreExportRows election kept (map (row_at election kept) places)
