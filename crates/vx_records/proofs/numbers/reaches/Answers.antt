use Rattle.std.proofs.Common.{◌+◌, ◌-◌, sym, ◌∙◌, arith}
use Rattle.vx_records.proofs.Loops.{reaches_over, reaches_in, reaches_on, reaches_end}
use Rattle.vx_records.proofs.numbers.reaches.Goals as goal

pub returns-then-from-first-clause-exact : goal.returns-then-from-first-clause-exact
returns-then-from-first-clause-exact c =
    sym (c.loop-tried.invariant.same ∙ reaches_over (6 - c.loop-tried._tried) (6 - (c.loop-tried._tried + 1)) c.args.least c.args.most c.loop-tried.first c.loop-tried.last (omega arith) (omega arith))

pub returns-then-from-last-clause-exact : goal.returns-then-from-last-clause-exact
returns-then-from-last-clause-exact c =
    sym (c.loop-tried.invariant.same ∙ reaches_in (6 - c.loop-tried._tried) (6 - (c.loop-tried._tried + 1)) c.args.least c.args.most c.loop-tried.first c.loop-tried.last (omega arith) (omega arith) (omega arith))

pub loop-tried-preserved : goal.loop-tried-preserved
loop-tried-preserved c = record {
  same = c.loop-tried.invariant.same ∙ reaches_on (6 - c.loop-tried._tried) (6 - (c.loop-tried._tried + 1)) c.args.least c.args.most c.loop-tried.first c.loop-tried.last _ (omega arith) (omega arith) (omega arith) (omega arith);
  grows = omega arith;
}

pub returns-clause-exact : goal.returns-clause-exact
returns-clause-exact c =
    sym (c.loop-tried.invariant.same ∙ reaches_end (6 - c.loop-tried._tried) c.args.least c.args.most c.loop-tried.first c.loop-tried.last (omega arith))
