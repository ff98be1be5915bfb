-- What is found in a scan that shows its marks and zones.
use Rattle.std.proofs.Common.{ℕ, ◌≤◌}
use Rattle.vx_plane.specs.Plane.{Pixels, Page}
use Rattle.vx_grid.specs.declared.paper.Paper.{Paper}
use Rattle.vx_grid.specs.declared.places.Point.{Point}
use Rattle.vx_grid.specs.declared.sizes.HalfSides.{HalfSides}
use Rattle.vx_grid.specs.Sizes.{bubble, zone_of}
use Rattle.vx_geom.specs.Slants.{Slant, IsSlant}
use Rattle.vx_margin.specs.Marks.{mark_image, image_of, LiesNear}
use Rattle.vx_margin.specs.Shown.{ShowsBorder, IsInStartRegion, ShowsZone}
use Rattle.vx_margin.specs.Laws.{FindsBorder, HoldsWindow}
use Rattle.vx_margin.proofs.Steps.{first-accepted, first-in-region}
use Rattle.vx_margin.proofs.Chains.{followed-near, near-closes, next-accepted}
use Rattle.vx_margin.proofs.Windows.{window-at_most, window-at_least}

pub finds-border : (s : Slant) (scan : Page) (paper : Paper) (marks : Pixels) → ShowsBorder s scan paper marks → IsInStartRegion (mark_image s paper 0) → FindsBorder s scan paper
finds-border s scan paper marks shows start = record {
  first_accepted = first-accepted s scan paper marks shows start;
  first_in_region = first-in-region s scan paper marks shows start;
  at_marks = followed-near s scan paper marks shows start;
  next_accepted = λ n places some few near. (next-accepted s scan paper marks shows n places some few near).0;
  next_near = λ n places some few near. (next-accepted s scan paper marks shows n places some few near).1;
  closes = near-closes s scan paper marks shows;
}

pub holds-window : (s : Slant) (scan : Page) (paper : Paper) (set : Pixels) (half : HalfSides) (c r most : ℕ) (p : Point) → IsSlant s
    → half.across ≤ bubble.across → half.down ≤ bubble.down → ShowsZone s scan paper set (zone_of half) c r most
    → LiesNear 6 4 p (image_of s paper c r) → HoldsWindow scan paper set half c r most p
holds-window s scan paper set half c r most p slant narrow low shows near = record {
  at_most = window-at_most s slant scan paper set half narrow low c r p near most shows;
  at_least = window-at_least s slant scan paper set half narrow low c r p near most shows;
}
