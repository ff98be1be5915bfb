use Rattle.std.proofs.Common.{◌≡◌, take}
use Rattle.std.specs.List.{flat_map}
use Rattle.vx_center.specs.Exports.{final_if_exported}
use Rattle.vx_center.proofs.exporting.finals.Given as goal

abbrev pub invariant-loop-marks : goal.invariant-loop-marks
invariant-loop-marks l = l.finals.items ≡ flat_map (final_if_exported l.election l.sheet_blank l.decided) (take l.marks-index l.marks-items)
