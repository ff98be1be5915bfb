use Rattle.std.proofs.Common.{◌≤◌, ◌+◌, ℕ, List, take}
use Rattle.vx_rounds.specs.declared.piles.Piles.{Piles}
use Rattle.vx_rounds.specs.Rankings.{most_steps}
use Rattle.vx_rounds.specs.Piles.{stands_in, left_in, HasPiles, Laid}
use Rattle.vx_rounds.proofs.piles.Piles.lay_all.Given as goal

-- so many ballots are laid
pub record AreLaid (rankings : List (List ℕ)) (old now : Piles) (before after seen : ℕ) : Type 0 where
  pub piles : HasPiles now
  pub laid : Laid rankings (stands_in old) old now (take seen rankings)
  pub spent : after + left_in rankings now ≤ before + left_in rankings old + most_steps (take seen rankings)

abbrev pub invariant-loop-ballot : goal.invariant-loop-ballot
invariant-loop-ballot g l = AreLaid l.ballots l.initial.self l.self l.initial.steps l.steps l.ballot
