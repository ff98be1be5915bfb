use Rattle.std.proofs.Common.{◌≡◌, ◌+◌, length}
use Rattle.std.specs.List.{prefix_len}
use Rattle.vx_records.specs.Letters.{is_letter}
use Rattle.vx_records.proofs.letters.letters_here.Given as goal

-- the letters so far, and those that follow
abbrev pub invariant-loop-byte : goal.invariant-loop-byte
invariant-loop-byte l = record {
  same : prefix_len (is_letter l.letters) l.text ≡ l.count + prefix_len (is_letter l.letters) l.rest;
  size : l.count + length l.rest ≡ length l.text;
}

abbrev pub decreases-loop-byte : goal.decreases-loop-byte
decreases-loop-byte l = length l.rest
