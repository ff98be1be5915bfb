use Rattle.std.proofs.Common.{◌≡◌, drop, false, map}
use Rattle.vx_center.specs.Exports.{row_at}
use Rattle.vx_command.specs.Done.{WritesTo}
use Rattle.vx_cvr.specs.Pieces.{sheet_pieces}
use Rattle.vx_command_export.specs.Outcome.{writing_each}
use Rattle.vx_command_export.proofs.pieces.write_sheets.Given as goal

-- the sheets so far are written, without a fault
abbrev pub invariant-loop-place : goal.invariant-loop-place
invariant-loop-place g l = record {
  comes : WritesTo (writing_each (sheet_pieces l.election false (map (row_at l.election l.center.events) l.places)))
      (writing_each (sheet_pieces l.election l.is_later (map (row_at l.election l.center.events) (drop l.place-index l.places))))
      (g.S.Sink.taken l.fn.out) (g.S.Sink.taken l.out);
  still : g.S.Sink.faults l.out ≡ g.S.Sink.faults l.fn.out;
}
