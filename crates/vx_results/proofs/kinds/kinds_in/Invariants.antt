use Rattle.std.proofs.Common.{◌≡◌}
use Rattle.std.specs.Prelude.{filter}
use Rattle.std.specs.List.{range_with_len}
use Rattle.vx_center.specs.Sheets.{sheets_in}
use Rattle.vx_results.specs.Kinds.{has_lines}
use Rattle.vx_results.proofs.kinds.kinds_in.Given as goal

abbrev pub invariant-loop-kind : goal.invariant-loop-kind
invariant-loop-kind l = l.kinds.items ≡ filter (has_lines (sheets_in l.center.events)) (range_with_len 0 l.kind)
