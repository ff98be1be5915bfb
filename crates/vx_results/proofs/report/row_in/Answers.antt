use Rattle.std.proofs.Common.{◌≡◌, ◌∙◌, ℕ, List, Some, ap, sym}
use Rattle.std.specs.Prelude.{slice_get}
use Rattle.vx_election_model.specs.declared.election.Election.{Election}
use Rattle.vx_events.specs.declared.event.Event.{Event}
use Rattle.vx_cvr.specs.Rows.{rows_of}
use Rattle.vx_results.specs.Fitting.{IsRow}
use Rattle.vx_results.proofs.Each.{each-there}
use Rattle.vx_results.proofs.Ordered.{row_there}
use Rattle.vx_results.proofs.report.row_in.Goals as goal

pub returns-clause-fits : goal.returns-clause-fits
returns-clause-fits c =
    let election : Election = c.args.center.now.election in
    let kept : List Event = c.args.center.now.events in
    let places : List ℕ = c.args.places.now in
    let there : slice_get (rows_of election kept) c.args.at ≡ Some c.in_ok-row.row =
    row_there election kept places c.requires.places c.args.at c.requires.within ∙ ap Some (sym c.in_ok-row.ensures) in
    each-there (IsRow election) (rows_of election kept) c.args.at c.in_ok-row.row
    (c.rows_fit.ensures election kept c.requires.valid c.events-kept.ensures.history).each there
