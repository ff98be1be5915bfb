use Rattle.std.proofs.Common.{◌≡◌, length}
use Rattle.vx_walk.proofs.ScanActs.{UpTo}
use Rattle.vx_walk.proofs.images.walk_scan.Given as goal

-- the images so far are gone over, without a fault
abbrev pub invariant-images : goal.invariant-images
invariant-images g l = record {
  up_to : UpTo (g.W.SheetWork.step l.fn.work l.scan) l.word l.fn.walked l.bytes (g.S.Sink.taken l.fn.out) (g.S.Sink.taken l.out) l.now l.reader;
  may : g.W.SheetWork.may l.work;
  same : l.work ≡ l.fn.work;
  still : g.S.Sink.faults l.out ≡ g.S.Sink.faults l.fn.out;
}

abbrev pub decreases-images : goal.decreases-images
decreases-images g l = length l.reader.text
