use Rattle.std.proofs.Common.{◌≡◌, ◌++◌, drop, map, string_bytes}
use Rattle.vx_records.specs.Records.{state_letter}
use Rattle.vx_records.proofs.encoding.push_states.Given as goal

-- the text so far and the letters of the states that are left
abbrev pub invariant-loop-state : goal.invariant-loop-state
invariant-loop-state l =
    string_bytes l.text ++ map state_letter (drop l.state-index l.states) ≡ string_bytes l.initial.text ++ map state_letter l.states
