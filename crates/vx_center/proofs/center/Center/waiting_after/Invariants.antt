use Rattle.std.proofs.Common.{◌≡◌, ◌<◌, ◌≤◌, ℕ, false}
use Rattle.vx_center.specs.Waiting.{waits_at}
use Rattle.vx_center.proofs.center.Center.waiting_after.Given as goal

abbrev pub invariant-loop-sheet : goal.invariant-loop-sheet
invariant-loop-sheet l = (sheet contest : ℕ) → l.from ≤ sheet → sheet < l.sheet → waits_at l.self.election l.self.events sheet contest ≡ false
