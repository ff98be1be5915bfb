use Rattle.std.proofs.Common.{◌≡◌, ℕ, List, take}
use Rattle.vx_audit.specs.Finding.{place_of}
use Rattle.vx_audit.specs.Hand.{contest_with}
use Rattle.vx_audit.proofs.finding.index_contests.Given as goal

abbrev pub invariant-loop-place : goal.invariant-loop-place
invariant-loop-place l = (id : List ℕ) → place_of l.index id ≡ contest_with (take l.place l.contests) id
