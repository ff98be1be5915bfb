use Rattle.std.proofs.Common.{◌≡◌, ◌∙◌, ap, rules}
use Rattle.std.specs.Prelude.{is_some}
use Rattle.std.specs.List.{list_any}
use Rattle.vx_tally.specs.Totals.{same_record}
use Rattle.vx_tally.proofs.KeptRecords.{found-in}
use Rattle.vx_tally.proofs.tally.Tally.holds.Goals as goal

pub returns : goal.returns
returns c =
    let some : c.is_some.result ≡ is_some c.key_of.result = search rules in
    some ∙ ap is_some c.key_of.ensures.first
    ∙ found-in c.args.cvr.now c.self.inside.next c.self.inside.records.entries c.self.invariant.kept
    ∙ ap (list_any (same_record c.args.cvr.now)) c.self.view_is
