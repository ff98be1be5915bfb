use Rattle.std.proofs.Common.{◌≡◌, drop}
use Rattle.vx_election.specs.Contests.{with_parties}
use Rattle.vx_election.proofs.candidates.with_parties.Given as goal

abbrev pub invariant-loop-place : goal.invariant-loop-place
invariant-loop-place l = with_parties l.parties l.text (drop l.place-index l.places) ≡ with_parties l.parties l.name l.places
