use Rattle.std.proofs.Common.{◌≡◌, ◌==◌, false, take}
use Rattle.std.specs.List.{list_any}
use Rattle.vx_center.specs.Sheets.{Added, sheets_in}
use Rattle.vx_results.specs.Kinds.{kind_of}
use Rattle.vx_results.proofs.kinds.is_added.Given as goal

abbrev pub invariant-loop-place : goal.invariant-loop-place
invariant-loop-place l = list_any (λ (added : Added). l.kind == kind_of added.sheet) (take l.place (sheets_in l.center.events)) ≡ false
