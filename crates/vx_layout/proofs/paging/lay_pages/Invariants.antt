use Rattle.std.proofs.Common.{◌≡◌, map}
use Rattle.std.specs.List.{range_with_len}
use Rattle.vx_layout.specs.Plan.{page_plan}
use Rattle.vx_layout.proofs.paging.lay_pages.Given as goal

-- the pages so far
abbrev pub invariant-loop-before : goal.invariant-loop-before
invariant-loop-before l = l.pages ≡ map (page_plan l.election l.card l.blocks l.of) (range_with_len 1 l.before)
