use Rattle.std.proofs.Common.{rules}
use Rattle.vx_trials_pages.specs.First.{first_card}
use Rattle.vx_trials_pages.proofs.simulated.simulate_page.Goals as goal

pub simulate-requires : goal.simulate-requires
simulate-requires g c = (search rules, (c.requires.valid, (first_card c.args.plan.now, c.in_ok-page.ensures)))

pub returns : goal.returns
returns g c = c.in_ok-simulate.ensures.fits (first_card c.args.plan.now) c.in_ok-page.ensures
