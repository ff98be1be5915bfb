use Rattle.std.proofs.Common.{◌≡◌, ◌+◌, ◌*◌, ◌++◌, List, drop}
use Rattle.vx_plane.specs.Plane.{Page}
use Rattle.vx_command.specs.Acts.{Outcome}
use Rattle.vx_command.specs.Done.{ComesTo}
use Rattle.vx_command_count.specs.declared.counting.Counting.{Counting}
use Rattle.vx_command_count.specs.Outcome.{with_images}
use Rattle.vx_command_count.specs.Tally.{sheets_in}
use Rattle.vx_command_count.proofs.pairs.count_pairs.Given as goal

-- the sheets so far are counted, without a fault
abbrev pub invariant-loop-pair : goal.invariant-loop-pair
invariant-loop-pair g l = record {
  comes : (more : List Page) (rest : Counting → List Page → Outcome) → ComesTo (with_images l.setting.election.now l.setting.batch.now l.initial.counting (l._images ++ more) rest) (with_images l.setting.election.now l.setting.batch.now l.counting (drop (2 * l.pair) l._images ++ more) rest) (g.S.Sink.taken l.initial.out) (g.S.Sink.taken l.out) (g.K.Keeper.held l.initial.keeper) (g.K.Keeper.held l.keeper);
  election : l.counting.journal.center.election ≡ l.setting.election.now;
  sheets : sheets_in l.counting.tally ≡ sheets_in l.initial.counting.tally + l.pair;
  no_write_fault : g.S.Sink.faults l.out ≡ g.S.Sink.faults l.initial.out;
  no_keeper_fault : g.K.Keeper.faults l.keeper ≡ g.K.Keeper.faults l.initial.keeper;
}
