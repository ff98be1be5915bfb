use Rattle.std.proofs.Common.{◌≡◌, ◌+◌, drop}
use Rattle.vx_pbm.specs.Header.{digit_count}
use Rattle.vx_pbm.proofs.header.digit_count.Given as goal

abbrev pub invariant-loop-i : goal.invariant-loop-i
invariant-loop-i l = digit_count (drop l.i l.text) + l.i ≡ digit_count l.text
