use Rattle.std.proofs.Common.{◌≡◌, ◌<◌, ◌^◌, length}
use Rattle.vx_records.specs.Numbers.{digits_in}
use Rattle.vx_records.proofs.numbers.digits.Given as goal

-- the digits so far are those of n
abbrev pub invariant-loop-byte : goal.invariant-loop-byte
invariant-loop-byte l = record {
  same : digits_in l.numbers l.first l.text ≡ digits_in l.numbers l.n l.rest;
  small : l.n < 2 ^ 32;
}

abbrev pub decreases-loop-byte : goal.decreases-loop-byte
decreases-loop-byte l = length l.rest
