use Rattle.std.proofs.Common.{◌≡◌, length}
use Rattle.vx_gray.specs.Images.{images_of, images_left}
use Rattle.vx_command_gray.specs.Done.{Comes}
use Rattle.vx_command_gray.specs.Outcome.{GrayOutcome, scan_outcome}
use Rattle.vx_command_gray.proofs.writing.write_scan.Given as goal

-- the images so far are written, without a fault
abbrev pub invariant-images : goal.invariant-images
invariant-images g l = record {
  comes : (rest : GrayOutcome) → Comes (scan_outcome l.word (images_of l.bytes) rest) (scan_outcome l.word (images_left l.reader) rest)
      (g.S.Sink.taken l.initial.out) (g.S.Sink.taken l.out);
  still : g.S.Sink.faults l.out ≡ g.S.Sink.faults l.initial.out;
}

abbrev pub decreases-images : goal.decreases-images
decreases-images g l = length l.reader.text
