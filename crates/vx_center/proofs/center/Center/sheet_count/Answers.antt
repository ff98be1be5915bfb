use Rattle.std.proofs.Common.{◌≡◌, ◌∙◌, ap, arith, length}
use Rattle.std.proofs.lemmas.List.{length-map}
use Rattle.vx_center.specs.States.{named_entry}
use Rattle.vx_center.specs.Sheets.{sheets_in}
use Rattle.vx_center.proofs.Adding.{few-sheets}
use Rattle.vx_center.proofs.Few.{few-events}
use Rattle.vx_center.proofs.center.Center.sheet_count.Goals as goal

pub returns-clause-few : goal.returns-clause-few
returns-clause-few c =
    let events = c.self.inside.events in
    let count : c.len.result ≡ length (sheets_in events) = c.len.ensures.len ∙ ap length c.self.invariant.entries ∙ length-map (sheets_in events) (named_entry events) in
    omega (arith, count, few-sheets 0 events, few-events c.self.inside.election.now events c.self.invariant.history)
