use Rattle.std.proofs.Common.{◌≡◌, drop}
use Rattle.vx_ranked.specs.Splits.{card_checked}
use Rattle.vx_ranked.proofs.splits.check_card.Given as goal

abbrev pub invariant-loop-group : goal.invariant-loop-group
invariant-loop-group l = card_checked l.plan (drop l.group-index l.groups) ≡ card_checked l.plan l.groups
