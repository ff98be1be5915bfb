use Rattle.std.proofs.Common.{◌≡◌, ◌≤◌, ◌*◌, take}
use Rattle.vx_layout.specs.Plan.{hollow_on}
use Rattle.vx_layout.proofs.counting.hollow_on.Given as goal

-- the count on the pages so far
abbrev pub invariant-loop-page : goal.invariant-loop-page
invariant-loop-page l = record {
  counted : l.hollow ≡ hollow_on (take l.page-index l.pages);
  few : l.hollow ≤ 40000000 * l.page-index;
}
