use Rattle.std.proofs.Common.{arith}
use Rattle.vx_command_demo.proofs.Within.{reasons-more}
use Rattle.vx_command_demo.proofs.counted.both.Goals as goal

pub both_reasons-requires-clause-some : goal.both_reasons-requires-clause-some
both_reasons-requires-clause-some c =
    reasons-more _ _ c.args.some.now.reasons (omega (arith, c.requires.few)) c.requires.some.reasons

pub both_reasons-requires-clause-more : goal.both_reasons-requires-clause-more
both_reasons-requires-clause-more c =
    reasons-more _ _ c.args.more.now.reasons (omega (arith, c.requires.few)) c.requires.more.reasons
