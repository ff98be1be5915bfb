use Rattle.std.proofs.Common.{◌≡◌, ◌<◌, ℕ}
use Rattle.std.specs.Prelude.{Ok}
use Rattle.vx_grid.specs.Paper.{last_row}
use Rattle.vx_check.specs.Tests.{place_tested}
use Rattle.vx_check.proofs.border.check_places.Given as goal

-- the marks so far pass
abbrev pub invariant-loop-k : goal.invariant-loop-k
invariant-loop-k l = (j : ℕ) → j < l.k → place_tested l.counter (last_row l.border.paper) l.border.places j ≡ Ok tt
