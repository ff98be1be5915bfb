use Rattle.std.proofs.Common.{◌≡◌, take}
use Rattle.std.specs.Option.{option_copied}
use Rattle.vx_center.specs.Decisions.{decisions_on, name_of}
use Rattle.vx_center.proofs.counting.name_on.Given as goal

abbrev pub invariant-loop-one : goal.invariant-loop-one
invariant-loop-one l = option_copied l.given ≡ name_of l.slot (decisions_on l.contest (take l.one-index l.decided))
