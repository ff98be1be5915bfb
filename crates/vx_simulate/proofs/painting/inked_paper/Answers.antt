use Rattle.std.proofs.Common.{ap, ◌∙◌}
use Rattle.vx_plane.specs.Plane.{Page, painted, in_any}
use Rattle.std.proofs.Common.{length}
use Rattle.vx_simulate.specs.Ink.{inked, inked_bubble}
use Rattle.vx_simulate.proofs.painting.inked_paper.Goals as goal

pub returns : goal.returns
unfolding inked
returns c =
    let plan = c.args.plan.now in
    c.paint_inks.ensures ∙ ap (λ (p : Page). painted p (in_any (length plan.bubbles) (inked_bubble plan c.args.inks.now))) c.in_ok-paper.ensures
