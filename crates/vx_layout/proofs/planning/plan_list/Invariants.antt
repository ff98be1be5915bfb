use Rattle.vx_layout.proofs.Listed.{ArePlansFrom}
use Rattle.vx_layout.proofs.planning.plan_list.Given as goal

-- the plans of the cards so far
abbrev pub invariant-loop-card : goal.invariant-loop-card
invariant-loop-card l = ArePlansFrom l.election 0 l.card l.plans
