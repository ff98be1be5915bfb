use Rattle.std.proofs.Common.{◌≡◌, ◌+◌, ◌-◌, ◌≤◌, ℕ, List}
use Rattle.vx_rounds.specs.declared.outcome.Round.{Round}
use Rattle.vx_rounds.specs.declared.piles.Piles.{Piles}
use Rattle.vx_rounds.specs.Rankings.{most_steps}
use Rattle.vx_rounds.specs.Rounds.{rounds_from, rounds_of}
use Rattle.vx_rounds.specs.Piles.{stands_in, left_in, ArePiled}
use Rattle.vx_rounds.proofs.Rounded.{ahead}
use Rattle.vx_rounds.proofs.counting.count_rounds.Given as goal

-- some rounds are done, and those from these piles on are the rest
pub record AreDone (candidates : ℕ) (rankings : List (List ℕ)) (piles : Piles) (done : List Round) (before after left : ℕ) : Type 0 where
  pub piled : ArePiled candidates rankings piles
  pub rest : rounds_of candidates rankings ≡ ahead done (rounds_from left candidates (stands_in piles) rankings)
  pub spent : after + left_in rankings piles ≤ before + most_steps rankings

abbrev pub invariant-loop-round : goal.invariant-loop-round
invariant-loop-round g l = AreDone l.candidates l.ballots l.piles l.rounds l.fn.steps l.steps (l.candidates - l._round)
