-- How a scan comes of a page, its ink and its flips.
use Rattle.std.proofs.Common.{◌≡◌, ◌||◌, Bool, List, length, ℤ, pos, ap, ◌∙◌}
use Rattle.vx_plane.specs.Plane.{Pixels, Page, page_of, dark_at, in_any}
use Rattle.vx_plane.proofs.Pages.{page_of-same, dark_at-inside}
use Rattle.vx_layout.specs.declared.pages.PagePlan.{PagePlan}
use Rattle.vx_geom.specs.Slants.{Slant, slant_of, paper_column, paper_row}
use Rattle.vx_geom.specs.Seen.{seen}
use Rattle.vx_margin.specs.Flips.{differ}
use Rattle.vx_simulate.specs.declared.ink.Ink.{Ink}
use Rattle.vx_simulate.specs.declared.simulation.Simulation.{Simulation}
use Rattle.vx_simulate.specs.Lie.{frame_width, frame_height}
use Rattle.vx_simulate.specs.Ink.{inked_bubble, inked}
use Rattle.vx_simulate.specs.Flips.{drawn_flips}
use Rattle.vx_simulate.specs.Simulated.{scan_of}

-- the same page with the same ink is the same paper
inked-same : (plan : PagePlan) (inks : List Ink) (a b : Pixels) → ((x y : ℤ) → a x y ≡ b x y) → (x y : ℤ) → inked plan inks a x y ≡ inked plan inks b x y
unfolding inked
inked-same plan inks a b same x y = ap (λ (dark : Bool). dark || in_any (length plan.bubbles) (inked_bubble plan inks) x y) (same x y)

-- of the same paper the same scan is made
pub scan-same : (plan : PagePlan) (a b : Pixels) (it : Simulation) → ((x y : ℤ) → a x y ≡ b x y) → scan_of plan a it ≡ scan_of plan b it
scan-same plan a b it same =
    let s : Slant = slant_of it.shear in
    page_of-same frame_width (frame_height plan.paper) _ _ (λ u v h k.
    ap (λ (dark : Bool). differ (drawn_flips s plan it.flips (pos u) (pos v)) dark)
    (inked-same plan it.inks a b same (paper_column s (pos u) (pos v)) (paper_row s (pos u) (pos v))))

-- a scan whose rows show a paper with ink, but for the flips of a page of flips
pub scan-is : (plan : PagePlan) (print : Pixels) (it : Simulation) (paper flips scan : Page)
    → ((x y : ℤ) → dark_at paper x y ≡ inked plan it.inks print x y)
    → flips ≡ page_of frame_width (frame_height plan.paper) (drawn_flips (slant_of it.shear) plan it.flips)
    → scan ≡ page_of flips.width flips.height (λ u v. differ (dark_at flips u v) (seen (slant_of it.shear) (dark_at paper) u v))
    → scan ≡ scan_of plan print it
scan-is plan print it paper flips scan shows are is =
    let s : Slant = slant_of it.shear in
    is
    ∙ ap (λ (page : Page). page_of page.width page.height (λ u v. differ (dark_at page u v) (seen s (dark_at paper) u v))) are
    ∙ page_of-same frame_width (frame_height plan.paper) _ _ (λ u v across down.
    ap (λ (flip : Bool). differ flip (seen s (dark_at paper) (pos u) (pos v))) (dark_at-inside frame_width (frame_height plan.paper) u v (drawn_flips s plan it.flips) across down)
    ∙ ap (λ (dark : Bool). differ (drawn_flips s plan it.flips (pos u) (pos v)) dark) (shows (paper_column s (pos u) (pos v)) (paper_row s (pos u) (pos v))))
