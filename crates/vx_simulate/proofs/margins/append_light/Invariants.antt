use Rattle.std.proofs.Common.{◌≡◌, ◌*◌, ◌++◌, replicate}
use Rattle.vx_simulate.proofs.margins.append_light.Given as goal

-- the rows so far are light
abbrev pub invariant-loop-n : goal.invariant-loop-n
invariant-loop-n l = l.rows.items ≡ l.fn.rows.items ++ replicate (l.n * 264) 0
