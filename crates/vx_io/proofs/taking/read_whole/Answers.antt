use Rattle.std.proofs.Common.{◌∙◌, ◌+◌, refl, rules, length, ◌≤◌}
use Rattle.vx_io.proofs.Asking.{one-more}
use Rattle.vx_io.proofs.Texts.{ReadsFrom-further, length_written}
use Rattle.vx_io.proofs.taking.read_whole.Goals as goal

pub loop-at-preserved : goal.loop-at-preserved
loop-at-preserved g c =
    let before = c.loop-at.invariant in
    let within : c.in_ok-count.count ≤ length c.read.new.buf = c.in_ok-count.ensures.within.1 in
    record {
      within = length_written c.loop-at.at c.in_ok-count.count c.loop-at.buffer c.read.new.buf before.within within;
      read = ReadsFrom-further (g.I.Inputs.held c.args.inputs.now) (g.I.Inputs.held c.loop-at.inputs) c.args.name.now c.loop-at.at c.in_ok-count.count c.loop-at.buffer c.read.new.buf before.held before.within within before.read c.in_ok-count.ensures.read;
      held = cc;
      asked = one-more c.args.name.now c.loop-at.at (c.loop-at.at + c.in_ok-count.count) _ _ _ before.asked c.in_ok-count.ensures.asked (search rules);
      still = c.in_ok-count.ensures.cause.still refl ∙ before.still;
    }

pub returns-in_err-count-clause-asked : goal.returns-in_err-count-clause-asked
returns-in_err-count-clause-asked g c =
    (c.loop-at.at + 1, one-more c.args.name.now c.loop-at.at (c.loop-at.at + 1) _ _ _ c.loop-at.invariant.asked c.in_err-count.ensures.asked (search rules))
