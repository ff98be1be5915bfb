use Rattle.vx_command_center.proofs.Starting.{may_run}
use Rattle.vx_command_center.proofs.working.run_items.Goals as goal

pub run_all-requires-clause-may : goal.run_all-requires-clause-may
run_all-requires-clause-may g c κs within =
    may_run c.plans_show_each_option.ensures (record { election = c.args.election; plans = c.args.plans }) c.args.shared.now c.args.pass c.args.items.now
    c.requires.valid c.requires.plans c.requires.belongs c.requires.same c.requires.some c.requires.shares c.requires.calls c.requires.fits
