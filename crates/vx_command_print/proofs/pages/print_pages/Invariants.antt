use Rattle.std.proofs.Common.{◌≡◌, drop}
use Rattle.vx_command.specs.Done.{WritesTo}
use Rattle.vx_command_print.specs.Outcome.{pages_outcome}
use Rattle.vx_command_print.proofs.pages.print_pages.Given as goal

-- the pages so far are written, without a fault
abbrev pub invariant-loop-plan : goal.invariant-loop-plan
invariant-loop-plan g l = record {
  comes : WritesTo (pages_outcome l.election l.ballot l.plans) (pages_outcome l.election l.ballot (drop l.plan-index l.plans)) (g.S.Sink.taken l.fn.out) (g.S.Sink.taken l.out);
  still : g.S.Sink.faults l.out ≡ g.S.Sink.faults l.fn.out;
}
