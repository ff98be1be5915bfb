use Rattle.std.proofs.Common.{ap, arith}
use Rattle.std.proofs.lemmas.List.{length-take}
use Rattle.vx_tally.specs.Totals.{Summed}
use Rattle.vx_audit.proofs.totals.totals_of.Goals as goal

pub add-requires-clause-few : goal.add-requires-clause-few
add-requires-clause-few c =
    let count = ap (λ (summed : Summed). summed.count) c.loop-one.invariant in
    omega (arith, count, length-take c.loop-one.one-index c.args.records.now, c.requires.few)
