use Rattle.std.proofs.Common.{arith}
use Rattle.vx_trials_shared.proofs.Running.{may_run}
use Rattle.vx_trials_shared.proofs.ended.run_scripts.Goals as goal

pub run_all-pass-requires-clause-may : goal.run_all-pass-requires-clause-may
run_all-pass-requires-clause-may g c κs within =
    may_run c.in_ok-shared.shared c.args.center c.args.each _ _ c.in_ok-shared.pass c.args.scripts.now
    c.in_ok-shared.ensures (omega arith) (omega (arith, c.from-calls.ensures)) c.requires.some c.requires.scripts
