use Rattle.std.proofs.Common.{◌≡◌, drop}
use Rattle.std.specs.Prelude.{bytes_eq}
use Rattle.std.specs.List.{position_from}
use Rattle.vx_election_model.specs.declared.contest.Contest.{Contest}
use Rattle.vx_script.proofs.events.contest_place.Given as goal

-- there is none so far
abbrev pub invariant-loop-place : goal.invariant-loop-place
invariant-loop-place l = position_from (λ (contest : Contest). bytes_eq contest.id l.id) 0 l.election.contests ≡ position_from (λ (contest : Contest). bytes_eq contest.id l.id) l.place (drop l.place l.election.contests)
