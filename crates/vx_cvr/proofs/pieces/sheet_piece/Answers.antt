use Rattle.std.proofs.Common.{◌≡◌, ◌∙◌, List, ap, subst, sym}
use Rattle.vx_election_model.specs.declared.election.Election.{Election}
use Rattle.vx_events.specs.declared.event.Event.{Event}
use Rattle.vx_center.specs.declared.rows.ExportSheet.{ExportSheet}
use Rattle.vx_center.specs.Exports.{row_at}
use Rattle.vx_center.specs.Places.{sheet_at}
use Rattle.vx_cvr.specs.Pieces.{sheet_piece}
use Rattle.vx_cvr.specs.Report.{HasItsContests}
use Rattle.vx_cvr.proofs.Rows.{row_there}
use Rattle.vx_cvr.proofs.pieces.sheet_piece.Goals as goal

pub row_piece-requires-clause-contests : goal.row_piece-requires-clause-contests
row_piece-requires-clause-contests c =
    let election : Election = c.args.election.now in
    let kept : List Event = c.args.center.now.events in
    let is : c.in_ok-row.row ≡ row_at election kept c.args.place = c.in_ok-row.ensures ∙ ap (λ (e : Election). row_at e kept c.args.place) c.requires.election in
    subst (HasItsContests election) (sym is) (row_there election kept (sheet_at kept c.args.place))

pub returns : goal.returns
returns c =
    let election : Election = c.args.election.now in
    let kept : List Event = c.args.center.now.events in
    let is : c.in_ok-row.row ≡ row_at election kept c.args.place = c.in_ok-row.ensures ∙ ap (λ (e : Election). row_at e kept c.args.place) c.requires.election in
    c.in_ok-piece.ensures ∙ ap (λ (row : ExportSheet). sheet_piece election c.args.is_later row) is
