-- A report is read back as the value that it was written from.
use Rattle.std.proofs.Common.{ℕ, List, arith}
use Rattle.std.specs.Prelude.{⊤, Option, Some, None}
use Rattle.std.specs.List.{AllByRecursion}
use Rattle.vx_election_model.specs.declared.contest.Contest.{Contest}
use Rattle.vx_election_model.specs.declared.election.Election.{Election}
use Rattle.vx_election_model.specs.declared.named.Named.{Named}
use Rattle.vx_events.specs.declared.decision.WriteInName.{WriteInName}
use Rattle.vx_events.specs.declared.decision.WriteInName.TheVariants.{Words, Candidate}
use Rattle.vx_center.specs.declared.rows.ExportSheet.{ExportSheet}
use Rattle.vx_center.specs.declared.rows.Final.{Final}
use Rattle.vx_cvr.specs.Rows.{rows_of}
use Rattle.vx_cvr.specs.Report.{report_over, report_of}
use Rattle.vx_json_trip.specs.Trips.{LinesAreReadBack}
use Rattle.vx_report_read.proofs.Each.{each-any, each-weaker}
use Rattle.vx_results.specs.Fitting.{IsRow}
use Rattle.vx_results.specs.Laws.{RowsFit}
use Rattle.vx_report_read.proofs.Known.{TextsHave, NamesHave, election-has, row-has}
use Rattle.vx_report_read.proofs.Parts.{IsKnown, NameHas, ChoiceHas, RowHas, report-sound}
use Rattle.vx_report_read.proofs.Sound.{sound-readable, sound-ordered}
use Rattle.vx_report_read.specs.Exported.{ReportsAreReadBack}

-- that they are texts is all that is asked of texts here
abbrev Any : List ℕ → Type 0
Any text = ⊤

any-known : IsKnown Any
any-known = record { plain = λ text is. tt; joined = λ one other first second. tt; number = λ n small. tt }

any-texts : (election : Election) → TextsHave Any election
any-texts election = record {
  title = tt;
  precincts = each-any (λ (named : Named). Any named.name) election.precincts (λ named. tt);
  contests = each-any (λ (contest : Contest). Any contest.title × AllByRecursion (ChoiceHas Any) contest.choices) election.contests
      (λ contest. (tt, each-any (ChoiceHas Any) contest.choices (λ choice. (tt, tt))));
}

any-name : (name : Option WriteInName) → NameHas Any name
any-name None = tt
any-name (Some (Words words)) = tt
any-name (Some (Candidate number)) = tt

any-names : (row : ExportSheet) → NamesHave Any row
any-names row = each-any (λ (final : Final). AllByRecursion (NameHas Any) final.names) row.finals (λ final. each-any (NameHas Any) final.names any-name)

pub report-read_back : LinesAreReadBack → RowsFit → ReportsAreReadBack
unfolding report_of
report-read_back law fit election kept moment id valid history =
    let rows = rows_of election kept in
    let have = each-weaker (IsRow election) (RowHas Any election) rows (λ row is. row-has Any any-known election row valid is (any-names row))
    (fit election kept valid history).each in
    let sound = report-sound Any any-known election rows moment id (election-has Any any-known election valid (any-texts election)) have tt tt in
    let value = report_over election rows moment id in
    law value (sound-readable Any value 12 (omega arith) sound) (sound-ordered Any value 12 sound)
