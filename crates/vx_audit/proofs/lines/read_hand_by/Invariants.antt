use Rattle.std.proofs.Common.{◌≡◌, ◌+◌, ◌≤◌, [], length}
use Rattle.vx_audit.specs.Finding.{ballot_in}
use Rattle.vx_audit.specs.Hand.{hand_behind, lines_of}
use Rattle.vx_audit.proofs.lines.read_hand_by.Given as goal

abbrev pub invariant-lines : goal.invariant-lines
invariant-lines l = record {
  few : length l.hand + length l.text ≤ 67108864;
  so_far : hand_behind l.contests (ballot_in l.directory) l.hand (lines_of l.text) ≡ hand_behind l.contests (ballot_in l.directory) [] (lines_of l.initial.text);
}

abbrev pub decreases-lines : goal.decreases-lines
decreases-lines l = length l.text
