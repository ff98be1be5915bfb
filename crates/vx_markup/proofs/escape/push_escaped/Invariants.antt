use Rattle.std.proofs.Common.{◌≡◌, ◌++◌, drop}
use Rattle.vx_markup.specs.Escaped as spec
use Rattle.vx_markup.proofs.escape.push_escaped.Given as goal

-- what was written, and what is left to write, are all
abbrev pub invariant-loop-byte : goal.invariant-loop-byte
invariant-loop-byte l = l.text ++ spec.escaped (drop l.byte-index l.json) ≡ l.fn.text ++ spec.escaped l.json
