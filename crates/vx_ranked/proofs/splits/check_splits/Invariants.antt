use Rattle.std.proofs.Common.{◌≡◌, drop}
use Rattle.vx_ranked.specs.Splits.{cards_checked}
use Rattle.vx_ranked.proofs.splits.check_splits.Given as goal

abbrev pub invariant-loop-plan : goal.invariant-loop-plan
invariant-loop-plan l = cards_checked l.groups (drop l.plan-index l.plans) ≡ cards_checked l.groups l.plans
