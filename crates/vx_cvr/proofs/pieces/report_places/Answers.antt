use Rattle.std.proofs.Common.{List, ℕ, map, subst}
use Rattle.vx_election_model.specs.declared.election.Election.{Election}
use Rattle.vx_events.specs.declared.event.Event.{Event}
use Rattle.vx_center.specs.Exports.{AreExportPlaces, row_at}
use Rattle.vx_center.specs.Histories.{IsHistory}
use Rattle.vx_cvr.proofs.Rows.{rows_are}
use Rattle.vx_cvr.proofs.pieces.report_places.Goals as goal

pub returns : goal.returns
returns c =
    let election : Election = c.args.election.now in
    let kept : List Event = c.args.center.now.events in
    let places : List ℕ = c.in_ok-places.places.items in
    let history : IsHistory election kept = subst (λ (e : Election). IsHistory e kept) c.requires c.events-kept.ensures.history in
    let are : AreExportPlaces election kept places = subst (λ (e : Election). AreExportPlaces e kept places) c.requires c.in_ok-places.ensures in
    record {
      there = are.there;
      rows = rows_are c.sheets_have_own_keys.ensures election kept (map (row_at election kept) places) history are.rows;
    }
