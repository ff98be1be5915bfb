-- Laws of shapes that are put at a place.
use Rattle.std.proofs.Common.{◌≡◌, ℕ, ◌+◌, [], ◌∷◌, pos, ap, ap₂, ◌∙◌, arith}
use Rattle.std.proofs.Math.Bool.{or-false}
use Rattle.vx_plane.specs.Plane.{Page, rectangle, painted, any_of}
use Rattle.vx_plane.proofs.Pages.{painted-same}
use Rattle.vx_raster.specs.declared.stamp.Patch.{Patch}
use Rattle.vx_raster.specs.Shape.{patch_pixels}

at_corner : (n : ℕ) → pos (n + 0) ≡ pos n
at_corner n = ap (λ (k : ℕ). pos k) (omega arith)

-- one rectangle from the corner on
pub painted-one_patch : (page : Page) (x y width height : ℕ) → let patch : Patch = record { left = 0; top = 0; width = width; height = height } in painted page (any_of (patch ∷ []) (patch_pixels x y)) ≡ painted page (rectangle (pos x) (pos y) width height)
painted-one_patch page x y width height =
    painted-same page _ _ (λ u v l h.
    or-false (rectangle (pos (x + 0)) (pos (y + 0)) width height (pos u) (pos v))
    ∙ ap₂ (λ a b. rectangle a b width height (pos u) (pos v)) (at_corner x) (at_corner y))
