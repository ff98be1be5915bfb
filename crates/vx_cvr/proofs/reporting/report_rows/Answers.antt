use Rattle.std.proofs.Common.{◌≡◌, List, subst}
use Rattle.vx_election_model.specs.declared.election.Election.{Election}
use Rattle.vx_events.specs.declared.event.Event.{Event}
use Rattle.vx_center.specs.declared.rows.ExportSheet.{ExportSheet}
use Rattle.vx_center.specs.Exports.{AreExportRows}
use Rattle.vx_center.specs.Histories.{IsHistory}
use Rattle.vx_cvr.proofs.Rows.{contests_there, rows_are}
use Rattle.vx_cvr.proofs.reporting.report_rows.Goals as goal

-- the rows that the center exports are those of the election
exported : (election other : Election) (kept : List Event) (rows : List ExportSheet) → other ≡ election
    → AreExportRows other kept rows → AreExportRows election kept rows
exported election other kept rows same are = subst (λ (e : Election). AreExportRows e kept rows) same are

pub returns-clause-exact : goal.returns-clause-exact
returns-clause-exact c =
    let election : Election = c.args.election.now in
    let kept : List Event = c.args.center.now.events in
    let history : IsHistory election kept = subst (λ (e : Election). IsHistory e kept) c.requires c.events-kept.ensures.history in
    rows_are c.sheets_have_own_keys.ensures election kept c.in_ok-rows.rows history
    (exported election c.args.center.now.election kept c.in_ok-rows.rows c.requires c.in_ok-rows.ensures)

pub returns-clause-contests : goal.returns-clause-contests
returns-clause-contests c =
    let election : Election = c.args.election.now in
    let kept : List Event = c.args.center.now.events in
    contests_there election kept c.in_ok-rows.rows
    (exported election c.args.center.now.election kept c.in_ok-rows.rows c.requires c.in_ok-rows.ensures)
