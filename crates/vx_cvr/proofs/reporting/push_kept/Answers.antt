use Rattle.std.proofs.Common.{rules, ◌≡◌, ◌++◌, ◌<◌, ℕ, List, false, length, map, ap, subst, sym, ◌∙◌}
use Rattle.std.specs.Prelude.{All}
use Rattle.vx_election_model.specs.declared.election.Election.{Election}
use Rattle.vx_events.specs.declared.event.Event.{Event}
use Rattle.vx_center.specs.declared.rows.ExportSheet.{ExportSheet}
use Rattle.vx_center.specs.Exports.{row_at}
use Rattle.vx_center.specs.Sheets.{sheets_in}
use Rattle.vx_cvr.specs.Pieces.{joined, sheet_pieces}
use Rattle.vx_cvr.proofs.reporting.push_kept.Goals as goal

pub push_sheets-requires-clause-there : goal.push_sheets-requires-clause-there
push_sheets-requires-clause-there c =
    let shown : c.as_slice.result.now ≡ c.in_ok-places.places.items = search rules in
    subst (λ (places : List ℕ). All (λ place. place < length (sheets_in c.args.center.now.events)) places) (sym shown) c.in_ok-places.ensures.there

pub returns : goal.returns
returns c =
    let election : Election = c.args.election.now in
    let kept : List Event = c.args.center.now.events in
    let shown : c.as_slice.result.now ≡ c.in_ok-places.places.items = search rules in
    c.in_ok-push_sheets.ensures
    ∙ ap (λ (rows : List ExportSheet). c.args.text.now ++ joined (sheet_pieces election false rows))
    (ap (map (row_at election kept)) shown ∙ c.in_ok-places.ensures.rows)
