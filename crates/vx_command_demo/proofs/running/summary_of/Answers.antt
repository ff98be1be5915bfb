use Rattle.std.proofs.Common.{Ok, length, ap, ◌∙◌, arith}
use Rattle.vx_command_demo.specs.Summary.{hollow_in}
use Rattle.vx_command_demo.proofs.Summed.{summed}
use Rattle.vx_command_demo.proofs.running.summary_of.Goals as goal

pub hollow_in-hollow-requires : goal.hollow_in-hollow-requires
hollow_in-hollow-requires g c =
    omega (arith, c.cards_are_few.ensures c.args.election.now c.requires.election, c.requires.plans.all, ap length c.as_slice.ensures)

pub returns-clause-exact : goal.returns-clause-exact
returns-clause-exact g c =
    ap Ok
    (summed c.args.election.now c.args.plans.now c.args.seed c.args.sheets c.in_ok-counted.counted c.hollow_in-hollow.result c.in_ok-summary_text.field-0
    c.in_ok-counted.ensures (c.hollow_in-hollow.ensures ∙ ap hollow_in c.as_slice.ensures) c.in_ok-summary_text.ensures)
