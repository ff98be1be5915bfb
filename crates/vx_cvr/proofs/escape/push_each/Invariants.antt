use Rattle.std.proofs.Common.{◌≡◌, ◌++◌, drop}
use Rattle.json.specs.Print.{escape}
use Rattle.vx_cvr.proofs.escape.push_each.Given as goal

-- what was written, and what is left to write, are all
abbrev pub invariant-loop-byte : goal.invariant-loop-byte
invariant-loop-byte l = l.text ++ escape (drop l.byte-index l.given) ≡ l.fn.text ++ escape l.given
