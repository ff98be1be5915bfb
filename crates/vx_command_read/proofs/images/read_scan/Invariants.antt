use Rattle.std.proofs.Common.{◌≡◌, length}
use Rattle.vx_command_read.proofs.ImageActs.{ReadUpTo}
use Rattle.vx_command_read.proofs.images.read_scan.Given as goal

-- the images so far are read, without a fault
abbrev pub invariant-images : goal.invariant-images
invariant-images g l = record {
  read : ReadUpTo l.election l.word l.first l.bytes (g.S.Sink.taken l.initial.out) (g.S.Sink.taken l.out) l.reader l.number;
  still : g.S.Sink.faults l.out ≡ g.S.Sink.faults l.initial.out;
}

abbrev pub decreases-images : goal.decreases-images
decreases-images g l = length l.reader.text
