use Rattle.std.proofs.Common.{◌≡◌, drop}
use Rattle.std.specs.Prelude.{fold}
use Rattle.vx_desk.specs.Regions.{IsInside, with_bubble}
use Rattle.vx_desk.proofs.region.with_bubbles.Given as goal

-- the bubbles so far are held, and the others are left
abbrev pub invariant-loop-bubble : goal.invariant-loop-bubble
invariant-loop-bubble l =
    (fold (with_bubble l.number l.image) l.region (drop l.bubble-index l.image.bubbles) ≡ fold (with_bubble l.number l.image) l.fn.block l.image.bubbles)
    × IsInside l.image.page l.region
