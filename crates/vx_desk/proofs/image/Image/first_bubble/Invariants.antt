use Rattle.std.proofs.Common.{◌≡◌, ◌==◌, drop}
use Rattle.std.specs.Prelude.{find}
use Rattle.vx_layout.specs.declared.bubbles.Bubble.{Bubble}
use Rattle.vx_desk.proofs.image.Image.first_bubble.Given as goal

-- the first of the contest's is among those left
abbrev pub invariant-loop-bubble : goal.invariant-loop-bubble
invariant-loop-bubble l =
    find (λ (bubble : Bubble). bubble.contest == l.contest) (drop l.bubble-index l.self.bubbles)
    ≡ find (λ (bubble : Bubble). bubble.contest == l.contest) l.self.bubbles
