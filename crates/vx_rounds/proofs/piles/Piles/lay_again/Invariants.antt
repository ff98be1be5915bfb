use Rattle.std.proofs.Common.{◌≤◌, ◌+◌, ℕ, List, take, map}
use Rattle.vx_rounds.specs.declared.piles.PiledBallot.{PiledBallot}
use Rattle.vx_rounds.specs.declared.piles.Piles.{Piles}
use Rattle.vx_rounds.specs.Rankings.{ranking_at}
use Rattle.vx_rounds.specs.Piles.{stands_in, left_on, left_in, HasPiles, Laid}
use Rattle.vx_rounds.proofs.piles.Piles.lay_again.Given as goal

-- so many ballots of the pile are laid
pub record AreLaid (rankings : List (List ℕ)) (old now : Piles) (pile : List PiledBallot) (before after seen : ℕ) : Type 0 where
  pub piles : HasPiles now
  pub laid : Laid rankings (stands_in old) old now (map (λ piled. ranking_at rankings piled.ballot) (take seen pile))
  pub spent : after + left_in rankings now ≤ before + left_in rankings old + left_on rankings (take seen pile)

abbrev pub invariant-loop-piled : goal.invariant-loop-piled
invariant-loop-piled g l = AreLaid l.ballots l.initial.self l.self l.pile l.initial.steps l.steps l.piled-index
