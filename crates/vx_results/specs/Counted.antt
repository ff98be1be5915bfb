-- What is kept of sheets while they are counted, and the text of that.
use Rattle.std.specs.Prelude.{◌≡◌, ℕ, ◌+◌, ◌-◌, ◌*◌, ◌<◌, List, [], ◌∷◌, ◌++◌, length, map, set, slice_index_or}
use Rattle.std.specs.List.{flat_map}
use Rattle.vx_election_model.specs.declared.election.Election.{Election}
use Rattle.vx_rules.specs.declared.marks.SheetMarks.{SheetMarks}
use Rattle.vx_events.specs.declared.event.Event.{Event}
use Rattle.vx_center.specs.declared.rows.ExportSheet.{ExportSheet}
use Rattle.vx_center.specs.Sheets.{Added}
use Rattle.vx_tally.specs.declared.report.CvrRecord.{CvrRecord}
use Rattle.vx_tally.specs.declared.report.ReportContest.{ReportContest}
use Rattle.vx_tally.specs.Running.{Running, SumsUp, summed_in}
use Rattle.vx_tally.specs.Totals.{Summed}
use Rattle.vx_audit.specs.Walk.{by_place}
use Rattle.vx_results.specs.declared.groups.Group.{Group}
use Rattle.vx_results.specs.declared.summing.Figures.{Figures}
use Rattle.vx_results.specs.Figures.{batch_sheets, batch_waiting, names_of, records_of}
use Rattle.vx_results.specs.Firsts.{Numbered}
use Rattle.vx_results.specs.Kinds.{kind_of}
use Rattle.vx_results.specs.Named.{named_on}
use Rattle.vx_results.specs.Report.{contest_of, record_of, unit_at, units_of}
use Rattle.vx_results.specs.Results.{waiting_line}
use Rattle.vx_results.specs.Summary.{batch_text, contest_groups, group_sheets, groups_text, name_text, sheet_groups}
use Rattle.vx_results.specs.Sums.{AddsEach, AreSums, kept_texts, raised, sum_at}
use Rattle.vx_results.specs.Waiting.{waiting_on}

-- ---- what is kept

-- the place of the pile of a kind in a unit
abbrev pub pile_place : ℕ → ℕ → ℕ
pile_place kind unit = 8 * unit + kind

-- those of no record
abbrev pub none_kept : Running
none_kept = (0, [])

-- the running sums at a place
abbrev pub pile_at : List Running → ℕ → Running
pile_at piles place = slice_index_or piles place none_kept

-- those of a group, and what they say
abbrev pub group_pile : List Running → Group → Running
group_pile piles group = pile_at piles (pile_place group.kind group.unit)

abbrev pub pile_of : List Running → Group → Summed
pile_of piles group = summed_in (group_pile piles group)

-- so many units are there: all of the election, and its precincts
abbrev pub unit_count : Election → ℕ
unit_count election = length election.precincts + 1

module _ (election : Election) (kept : List Event) (seen : List Added) where
  -- there are running sums for each kind in each unit, and they are those of the records of the sheets
  pub record ArePiles (piles : List Running) : Type 0 where
    pub count : length piles ≡ 8 * unit_count election
    pub each : (kind unit : ℕ) → kind < 8 → unit < unit_count election
        → SumsUp (records_of election kept seen kind unit) (pile_at piles (pile_place kind unit))

  -- there are sums of names for each contest, and they are those of the sheets
  pub record AreNames (names : List (List Numbered)) : Type 0 where
    pub count : length names ≡ length election.contests
    pub each : (contest : ℕ) → contest < length election.contests
        → AreSums (names_of election kept seen contest) (slice_index_or names contest [])

  -- what is kept are the figures of the sheets
  pub record AreFigures (figures : Figures) : Type 0 where
    pub piles : ArePiles figures.piles.items
    pub sheets : AreSums (batch_sheets election kept seen) figures.sheets
    pub waits : AreSums (batch_waiting election kept seen) figures.waits
    pub names : AreNames figures.names.items
    pub waiting : figures.waiting ≡ length (flat_map (waiting_on election kept) seen)

-- ---- one sheet more

-- the running sums at a place have one record more, and the others stay
pub record HasRecord (place : ℕ) (one : CvrRecord) (old new : List Running) : Type 0 where
  pub pile : (records : List CvrRecord) → SumsUp records (pile_at old place) → SumsUp (records ++ one ∷ []) (pile_at new place)
  pub others : new ≡ set old place (pile_at new place)

-- those of a kind in the unit of a row have its record
abbrev pub WithRecord : Election → ℕ → ExportSheet → List Running → List Running → Type 0
WithRecord election kind row old new = HasRecord (pile_place kind (unit_at election row.card)) (record_of election row) old new

-- how many contests of a sheet wait
abbrev pub left_on : SheetMarks → ExportSheet → ℕ
left_on sheet row = length sheet.contests - length row.finals

-- a sheet was counted
pub record IsCounted (election : Election) (sheet : SheetMarks) (row : ExportSheet) (old new : Figures) : Type 0 where
  pub piles : WithRecord election (kind_of sheet) row old.piles.items new.piles.items
  pub sheets : new.sheets ≡ raised old.sheets row.key.batch 1
  pub waits : new.waits ≡ raised old.waits row.key.batch (left_on sheet row)
  pub names : AddsEach (λ contest. named_on election contest row) old.names.items new.names.items
  pub waiting : new.waiting ≡ old.waiting + left_on sheet row

-- ---- the text of what is kept

module _ (election : Election) (kept : List Event) (figures : Figures) where
  abbrev pub kept_sheets : List ℕ
  kept_sheets = flat_map (group_sheets (units_of election) (pile_of figures.piles.items)) (sheet_groups election kept)

  abbrev pub kept_batches : List ℕ
  kept_batches = flat_map (batch_text (sum_at figures.sheets) (sum_at figures.waits)) (kept_texts figures.sheets)

  abbrev pub kept_names : ℕ → ReportContest → List ℕ
  kept_names place contest =
      flat_map (name_text contest.id (sum_at (slice_index_or figures.names.items place [])))
      (kept_texts (slice_index_or figures.names.items place []))

  abbrev pub kept_counts : ℕ → ReportContest → List ℕ
  kept_counts place contest =
      groups_text (units_of election) (pile_of figures.piles.items) place contest (contest_groups election kept place)

  abbrev pub kept_contest : ℕ → ReportContest → List ℕ
  kept_contest place contest = kept_counts place contest ++ kept_names place contest

  abbrev pub kept_text : List ℕ
  kept_text =
      kept_sheets ++ kept_batches ++ by_place kept_contest 0 (map contest_of election.contests) ++ waiting_line figures.waiting
