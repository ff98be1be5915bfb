use Rattle.std.proofs.Common.{◌≡◌, ◌+◌, ◌-◌, ◌≤◌, ℕ, Bool, List, false, length, slice_index_or}
use Rattle.vx_rounds.specs.Rankings.{ranking_at}
use Rattle.vx_rounds.specs.Piles.{IsPassed}
use Rattle.vx_rounds.proofs.choosing.choose.Given as goal

-- the ballot is asked for this place next
pub record IsAt (rankings : List (List ℕ)) (standing : List Bool) (ballot from place before now : ℕ) : Type 0 where
  pub within : place ≤ length (ranking_at rankings ballot)
  pub passed : IsPassed rankings (λ c. slice_index_or standing c false) ballot place
  pub spent : now + from ≡ before + place

abbrev pub invariant-loop-candidate : goal.invariant-loop-candidate
invariant-loop-candidate g l = IsAt l.ballots l.standing l.ballot l.from l.place l.initial.steps l.steps

abbrev pub decreases-loop-candidate : goal.decreases-loop-candidate
decreases-loop-candidate g l = length (ranking_at l.ballots l.ballot) - l.place
