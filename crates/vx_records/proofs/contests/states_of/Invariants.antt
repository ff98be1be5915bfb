use Rattle.std.proofs.Common.{◌≡◌, take, map}
use Rattle.vx_records.specs.Reading.{state_of}
use Rattle.vx_records.proofs.contests.states_of.Given as goal

-- the letters so far
abbrev pub invariant-loop-letter : goal.invariant-loop-letter
invariant-loop-letter l = l.states.items ≡ map state_of (take l.letter-index l.letters)
