use Rattle.std.proofs.Common.{◌≡◌, length}
use Rattle.vx_command_check.proofs.PageActs.{CheckedTo}
use Rattle.vx_command_check.proofs.pages.check_pages.Given as goal

-- the pages so far are tested, and nothing failed
abbrev pub invariant-pages : goal.invariant-pages
invariant-pages g l = record {
  checked : CheckedTo l.election l.scans l.text l.held l.images l.said (g.S.Sink.taken l.initial.out) (g.S.Sink.taken l.out);
  still : g.S.Sink.faults l.out ≡ g.S.Sink.faults l.initial.out;
}

abbrev pub decreases-pages : goal.decreases-pages
decreases-pages g l = length l.images.text
