-- Laws of rectangles that are cut at the frame of their page.
use Rattle.std.proofs.Common.{◌≡◌, ℕ, ◌+◌, ◌-◌, ◌<◌, ◌≤◌, ◌⊎◌, min, false, pos, arith}
use Rattle.std.proofs.lemmas.Int.{ints}
use Rattle.vx_plane.specs.Plane.{Page, page_of, dark_at, rectangle, painted}
use Rattle.vx_plane.proofs.Pages.{painted-same, painted-none}

clipped : (left top width height right bottom u v x y : ℕ) → right ≡ min (left + width) u → bottom ≡ min (top + height) v → left < right → top < bottom → x < u → y < v → rectangle (pos left) (pos top) (right - left) (bottom - top) (pos x) (pos y) ≡ rectangle (pos left) (pos top) width height (pos x) (pos y)
clipped left top width height right bottom u v x y a b c d l h = grind (arith, ints)

-- painting what lies in the frame is painting the whole
pub painted-clipped : (page : Page) (left top width height right bottom : ℕ) → right ≡ min (left + width) page.width → bottom ≡ min (top + height) page.height → left < right → top < bottom → painted page (rectangle (pos left) (pos top) (right - left) (bottom - top)) ≡ painted page (rectangle (pos left) (pos top) width height)
painted-clipped page left top width height right bottom a b c d =
    painted-same page _ _ (λ x y l h. clipped left top width height right bottom page.width page.height x y a b c d l h)

beside : (left top width height u v x y : ℕ) → (min (left + width) u ≤ left) ⊎ (min (top + height) v ≤ top) → x < u → y < v → rectangle (pos left) (pos top) width height (pos x) (pos y) ≡ false
beside left top width height u v x y away l h = grind (arith, ints)

-- painting what lies beside the frame or under it paints nothing
pub painted-beside : (page : Page) (left top width height : ℕ) → page ≡ page_of page.width page.height (dark_at page) → (min (left + width) page.width ≤ left) ⊎ (min (top + height) page.height ≤ top) → painted page (rectangle (pos left) (pos top) width height) ≡ page
painted-beside page left top width height whole away =
    painted-none page _ whole (λ x y l h. beside left top width height page.width page.height x y away l h)
