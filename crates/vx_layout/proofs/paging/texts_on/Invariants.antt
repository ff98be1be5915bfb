use Rattle.std.proofs.Common.{◌≡◌, take}
use Rattle.std.specs.List.{flat_map}
use Rattle.vx_layout.specs.Plan.{texts_of, on_page}
use Rattle.vx_layout.proofs.paging.texts_on.Given as goal

-- the lines of the blocks so far
abbrev pub invariant-loop-block : goal.invariant-loop-block
invariant-loop-block l = l.texts ≡ flat_map (texts_of l.paper l.contests) (on_page l.page (take l.block-index l.blocks))
