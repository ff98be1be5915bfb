-- A report is read.
use Rattle.std.proofs.Common.{◌≡◌, ◌≤◌, ℕ, Bool, true, false, cond, List, [], ◌∷◌, ◌++◌, length, map, refl, sym, ap, ap₂, ◌∙◌}
use Rattle.std.specs.Prelude.{Option, Some, Result, Ok, Err, ok_or, bytes_eq}
use Rattle.std.specs.List.{AllByRecursion, IsDistinct, flat_map}
use Rattle.std.specs.Str.{is_utf8}
use Rattle.serde_json.specs.Data.{Data}
use Rattle.serde_json.specs.Read.{read}
use Rattle.vx_base.proofs.Lists.{map-map}
use Rattle.vx_base.specs.Results.{◌>>=◌}
use Rattle.vx_election_model.specs.declared.election.Election.{Election}
use Rattle.vx_election_model.specs.Valid.{IsValid}
use Rattle.vx_events.specs.declared.event.Event.{Event}
use Rattle.vx_journal.specs.Laws.{JournalsAreHistories}
use Rattle.vx_center.specs.declared.rows.ExportSheet.{ExportSheet}
use Rattle.vx_center.specs.declared.rows.Final.{Final}
use Rattle.vx_center.specs.Histories.{IsHistory}
use Rattle.vx_center.specs.Laws.{SheetsHaveOwnKeys}
use Rattle.vx_command.specs.Laws.{TakenElectionsAreValid}
use Rattle.vx_cvr.specs.Names.{sheet_name}
use Rattle.vx_cvr.specs.Rows as cvr
use Rattle.vx_cvr.specs.Report.{report_over, report_of}
use Rattle.vx_tally.specs.declared.fault.ReportFault.{ReportFault}
use Rattle.vx_tally.specs.declared.fault.ReportFault.TheVariants.{NotJson}
use Rattle.vx_tally.specs.declared.report.Report.{Report}
use Rattle.vx_tally.specs.Reading.{report_behind, report_in, value_in, report_in_bytes}
use Rattle.vx_tally.specs.Totals as totals
use Rattle.vx_results.specs.Report.{units_of, contest_of, vote_of, contest_at, counted_in, unit_of, record_of, report_of_events, report_of_rows}
use Rattle.vx_report_read.specs.Exported.{HistoriesAreRead, ReportsAreReadBack, ReportsAreRead, exported_vote, exported_by, RowsAreTheExported}
use Rattle.vx_report_read.specs.Texts.{ReportsAreUtf8}
use Rattle.vx_report_read.proofs.Contests.{units-read, contests-read}
use Rattle.vx_results.specs.Fitting.{IsRow}
use Rattle.vx_results.specs.Laws.{RowsFit}
use Rattle.vx_report_read.proofs.Members.{bind-ok}
use Rattle.vx_report_read.proofs.Pairs.{rows-distinct}
use Rattle.vx_report_read.proofs.Records.{PrecinctsAreThere, records-read}

-- the value of a report is read as the report of its rows
over-read : (election : Election) (rows : List ExportSheet) (moment id : List ℕ) → PrecinctsAreThere → IsValid election → AllByRecursion (IsRow election) rows
    → length rows ≤ 1000000 → IsDistinct bytes_eq (map (λ (row : ExportSheet). sheet_name row.key) rows)
    → report_in (report_over election rows moment id) ≡ Ok (report_of_rows election rows)
unfolding report_in report_behind
over-read election rows moment id law valid are few distinct =
    bind-ok _ _ (units_of election) _ (units-read election rows moment id valid)
    (bind-ok _ _ (map contest_of election.contests) _ (contests-read election rows moment id valid)
    (bind-ok _ _ (map (record_of election) rows) _ (records-read election rows moment id law valid are few distinct) refl))

value-read : (bytes : List ℕ) (value : Data) → is_utf8 bytes ≡ true → read bytes ≡ Some value → value_in bytes ≡ Ok value
unfolding value_in
value-read bytes value utf8 there =
    ap (λ (b : Bool). cond b (ok_or (read bytes) NotJson) (Err NotJson)) utf8 ∙ ap (λ (o : Option Data). ok_or o NotJson) there

-- the report of a history, where its bytes are UTF-8
text-read : ReportsAreReadBack → RowsFit → PrecinctsAreThere → SheetsHaveOwnKeys → (election : Election) (kept : List Event) (moment id : List ℕ)
    → IsValid election → IsHistory election kept → is_utf8 (report_of election kept moment id) ≡ true
    → report_in_bytes (report_of election kept moment id) ≡ Ok (report_of_events election kept)
unfolding report_in_bytes
text-read back fit precincts keys election kept moment id valid history utf8 =
    let rows = cvr.rows_of election kept in
    bind-ok _ _ (report_over election rows moment id) _
    (value-read (report_of election kept moment id) (report_over election rows moment id) utf8 (back election kept moment id valid history))
    (over-read election rows moment id precincts valid (fit election kept valid history).each (fit election kept valid history).few
    (rows-distinct election kept keys history))

no-text : (bytes : List ℕ) → is_utf8 bytes ≡ false → report_in_bytes bytes ≡ Err NotJson
unfolding report_in_bytes value_in
no-text bytes is = ap (λ (b : Bool). cond b (ok_or (read bytes) NotJson) (Err NotJson) >>= report_in) is

pub history-read : ReportsAreReadBack → RowsFit → PrecinctsAreThere → SheetsHaveOwnKeys → HistoriesAreRead
history-read back fit precincts keys election kept moment id valid history =
    by (is_utf8 (report_of election kept moment id)) (text-read back fit precincts keys election kept moment id valid history) (no-text (report_of election kept moment id))
  where
    by : (b : Bool) → (b ≡ true → report_in_bytes (report_of election kept moment id) ≡ Ok (report_of_events election kept))
        → (b ≡ false → report_in_bytes (report_of election kept moment id) ≡ Err NotJson)
        → report_in_bytes (report_of election kept moment id) ≡ cond b (Ok (report_of_events election kept)) (Err NotJson)
    by true text none = text refl
    by false text none = none refl

pub report-read : HistoriesAreRead → ReportsAreUtf8 → TakenElectionsAreValid → JournalsAreHistories → ReportsAreRead
report-read law utf8 valid history election kept moment device of words =
    law election kept moment device (valid of.file election of.is_taken) (history election of.records kept of.are_kept)
    ∙ ap (λ (b : Bool). cond b (Ok (report_of_events election kept)) (Err NotJson)) (utf8 election kept moment device of words)

-- ---- rows

pub flat_map-mapped : {X Y Z : Type 0} (f : Y → List Z) (g : X → Y) (h : X → List Z) (xs : List X) → ((x : X) → f (g x) ≡ h x)
    → flat_map f (map g xs) ≡ flat_map h xs
flat_map-mapped f g h [] same = refl
flat_map-mapped f g h (x ∷ xs) same = ap₂ (λ ys zs. ys ++ zs) (same x) (flat_map-mapped f g h xs same)

record-rows : (election : Election) (row : ExportSheet) → totals.record_rows (record_of election row) ≡ exported_by election row
record-rows election row =
    flat_map-mapped (totals.contest_rows (unit_of election row)) (counted_in election)
    (λ (final : Final). map (exported_vote election row final) final.selected) row.finals
    (λ final. map-map (totals.row_of (unit_of election row) final.contest) (vote_of (contest_at election final) final) final.selected)

pub rows-exported : (election : Election) (rows : List ExportSheet) → totals.rows_of (map (record_of election) rows) ≡ flat_map (exported_by election) rows
rows-exported election rows = flat_map-mapped totals.record_rows (record_of election) (exported_by election) rows (record-rows election)

abbrev given_or : Result Report ReportFault → Report → Report
given_or (Ok one) other = one
given_or (Err fault) other = other

same-ok : (r : Result Report ReportFault) (one other : Report) → r ≡ Ok one → r ≡ Ok other → one ≡ other
same-ok r one other first second = sym (ap (λ (r : Result Report ReportFault). given_or r one) first)
    ∙ ap (λ (r : Result Report ReportFault). given_or r one) second

-- what is given in one of two cases
given-in : (b : Bool) (one other : Report) → cond b (Ok other) (Err NotJson) ≡ Ok one → one ≡ other
given-in true one other given = same-ok (Ok other) one other given refl
given-in false one other given = absurd cc

pub rows-read : HistoriesAreRead → RowsAreTheExported
rows-read law election kept moment id report valid history given =
    let same : report ≡ report_of_rows election (cvr.rows_of election kept) = given-in (is_utf8 (report_of election kept moment id)) report
    (report_of_rows election (cvr.rows_of election kept)) (sym (law election kept moment id valid history) ∙ given) in
    ap (λ (one : Report). totals.rows_of one.records) same ∙ rows-exported election (cvr.rows_of election kept)
