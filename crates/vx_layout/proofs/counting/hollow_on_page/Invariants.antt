use Rattle.std.proofs.Common.{◌≡◌, ◌≤◌, ◌*◌, take}
use Rattle.std.specs.List.{sum_by}
use Rattle.vx_layout.specs.Plan.{hollow_in}
use Rattle.vx_layout.proofs.counting.hollow_on_page.Given as goal

-- the count on the lines so far
abbrev pub invariant-loop-line : goal.invariant-loop-line
invariant-loop-line l = record {
  counted : l.hollow ≡ sum_by hollow_in (take l.line-index l.texts);
  few : l.hollow ≤ 100 * l.line-index;
}
