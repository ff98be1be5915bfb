use Rattle.std.proofs.Common.{◌≡◌, ◌<◌, ◌∙◌, ℕ, List, Some, ap, length, map, subst, sym}
use Rattle.std.specs.Prelude.{slice_get, slice_index_or}
use Rattle.vx_election_model.specs.declared.election.Election.{Election}
use Rattle.vx_events.specs.declared.event.Event.{Event}
use Rattle.vx_events.specs.declared.key.Key.{Key}
use Rattle.vx_center.specs.Exports.{row_at}
use Rattle.vx_center.specs.Places.{sheet_at}
use Rattle.vx_center.specs.declared.rows.ExportSheet.{ExportSheet}
use Rattle.vx_cvr.specs.Names.{sheet_name}
use Rattle.vx_cvr.specs.Pieces.{AreReportPlaces}
use Rattle.vx_cvr.specs.Rows.{rows_of}
use Rattle.vx_tally.specs.declared.report.CvrRecord.{CvrRecord}
use Rattle.vx_results.specs.Report.{ids_of, record_of}
use Rattle.vx_results.proofs.Ordered.{how_many, made_there, row_there}
use Rattle.vx_results.proofs.report.JournalRecords.id.Goals as goal

pub returns : goal.returns
returns c =
    let election : Election = c.self.inside.election.now in
    let kept : List Event = c.self.inside.center.now.events in
    let places : List ℕ = c.self.inside.places.items in
    let are : AreReportPlaces election kept places = c.self.invariant.places in
    let row : ExportSheet = row_at election kept (slice_index_or places c.args.at 0) in
    let asked : c.args.at < length (map (record_of election) (rows_of election kept)) =
    subst (λ (records : List CvrRecord). c.args.at < length records) (sym c.self.view_is) c.requires in
    let within : c.args.at < length places = subst (λ (size : ℕ). c.args.at < size) (how_many election kept places are) asked in
    let there : slice_get (rows_of election kept) c.args.at ≡ Some row = row_there election kept places are c.args.at within in
    let key : row.key ≡ c.key_in-key.result.now =
    ap (λ (some : List ℕ). (sheet_at kept (slice_index_or some c.args.at 0)).key) (sym c.as_slice.ensures.value) ∙ sym c.key_in-key.ensures in
    subst (λ (records : List CvrRecord). slice_get (ids_of records) c.args.at ≡ Some c.in_ok-id.id) c.self.view_is
    (made_there (λ (one : CvrRecord). one.unique) (map (record_of election) (rows_of election kept)) c.args.at (record_of election row)
    (made_there (record_of election) (rows_of election kept) c.args.at row there)
    ∙ ap (λ (one : Key). Some (sheet_name one)) key ∙ ap Some (sym c.in_ok-id.ensures))
