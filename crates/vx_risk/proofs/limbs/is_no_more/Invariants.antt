use Rattle.std.proofs.Common.{◌≡◌, drop}
use Rattle.vx_risk.specs.Limbs.{number_of}
use Rattle.vx_risk.proofs.limbs.is_no_more.Given as goal

-- from the place on they are the same
abbrev pub invariant-loop-place : goal.invariant-loop-place
invariant-loop-place l = number_of (drop l.place l.first) ≡ number_of (drop l.place l.second)
