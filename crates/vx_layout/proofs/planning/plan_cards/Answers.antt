use Rattle.vx_base.proofs.Results.{Gives-holds}
use Rattle.vx_layout.specs.Faults.{is_card_no_memory}
use Rattle.vx_layout.specs.Plans.{plans_of, ArePlansOf}
use Rattle.vx_layout.proofs.Listed.{listed-each}
use Rattle.vx_layout.proofs.Made.{holds-each}
use Rattle.vx_layout.proofs.planning.plan_cards.Goals as goal

pub returns-clause-are_plans : goal.returns-clause-are_plans
returns-clause-are_plans c =
    Gives-holds is_card_no_memory c.plan_list.result c.plan_list.ensures
    (holds-each (ArePlansOf c.args.election.now) (plans_of c.args.election.now) (listed-each c.args.election.now))
