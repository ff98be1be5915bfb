-- A grayscale page that shows a scan: near each tile the paper is light enough, and what is dark on it is less than
-- half as light. So the light may fall unevenly, by a factor of two within nine tiles.
use Rattle.std.specs.Prelude.{◌≡◌, ◌<◌, ◌≤◌, ℕ, ◌+◌, ◌*◌, ◌/◌, ◌%◌, map, true, false, pos, if◌then◌else◌}
use Rattle.std.specs.List.{range_with_len}
use Rattle.vx_plane.specs.Plane.{Page, dark_at}
use Rattle.vx_gray.specs.Gray.{Gray, value_at, tile_of}

-- a place of a frame
pub record IsIn (width height u v : ℕ) : Type 0 where
  pub column : u < width
  pub row : v < height

-- a place of a tile
pub record IsOf (across down u v : ℕ) : Type 0 where
  pub column : tile_of u ≡ across
  pub row : tile_of v ≡ down

-- a place of a tile or of one of its neighbours
pub record IsNear (across down u v : ℕ) : Type 0 where
  pub left : across ≤ tile_of u + 1
  pub right : tile_of u ≤ across + 1
  pub above : down ≤ tile_of v + 1
  pub below : tile_of v ≤ down + 1

-- a scan is shown in a tile by a light: its light pixels have at least that value, its dark ones less than half of it;
-- near the tile no value is above twice that light, and one is at least as great
pub record IsLit (gray : Gray) (scan : Page) (across down light : ℕ) : Type 0 where
  pub least : 1 ≤ light
  pub most : light ≤ 255
  pub lighter :
      (u v : ℕ) → IsIn gray.width gray.height u v → IsOf across down u v → dark_at scan (pos u) (pos v) ≡ false
      → light ≤ value_at gray u v
  pub darker :
      (u v : ℕ) → IsIn gray.width gray.height u v → IsOf across down u v → dark_at scan (pos u) (pos v) ≡ true
      → 2 * value_at gray u v < light
  pub near :
      (u v : ℕ) → IsIn gray.width gray.height u v → IsNear across down u v → value_at gray u v ≤ 2 * light
  pub some :
      (u : ℕ) × (v : ℕ) × IsIn gray.width gray.height u v × IsNear across down u v × (light ≤ value_at gray u v)

-- a scan is shown: it has the page's frame, and each tile has its light
pub record Shows (gray : Gray) (scan : Page) : Type 0 where
  pub width_is : gray.width ≡ scan.width
  pub height_is : gray.height ≡ scan.height
  pub lit :
      (u v : ℕ) → IsIn gray.width gray.height u v → (light : ℕ) × IsLit gray scan (tile_of u) (tile_of v) light

-- a scan as a grayscale page: at each place the value of its paper, or that of its ink
unfoldable pub shown : Page → (ℕ → ℕ → ℕ) → (ℕ → ℕ → ℕ) → Gray
shown scan paper ink = record {
  width = scan.width;
  height = scan.height;
  values =
      map (λ n.
      let u = n % scan.width in
      let v = n / scan.width in
      if dark_at scan (pos u) (pos v) then ink u v else paper u v)
      (range_with_len 0 (scan.height * scan.width));
}

-- near a tile the paper's values are a light's, up to twice as great, and the ink's are less than half of it
pub record FallsNear (width height : ℕ) (paper ink : ℕ → ℕ → ℕ) (across down light : ℕ) : Type 0 where
  pub least : 1 ≤ light
  pub most : light ≤ 255
  pub papers : (u v : ℕ) → IsIn width height u v → IsNear across down u v → (light ≤ paper u v) × (paper u v ≤ 2 * light)
  pub inks : (u v : ℕ) → IsIn width height u v → IsNear across down u v → 2 * ink u v < light

-- so near each tile of a frame: the light falls by a factor of two at most over each nine tiles
abbrev pub FallsSlowly : ℕ → ℕ → (ℕ → ℕ → ℕ) → (ℕ → ℕ → ℕ) → Type 0
FallsSlowly width height paper ink =
    (u v : ℕ) → IsIn width height u v → (light : ℕ) × FallsNear width height paper ink (tile_of u) (tile_of v) light

-- near each tile of a page a place is light
abbrev pub HasLightNear : Page → Type 0
HasLightNear scan =
    (u v : ℕ) → IsIn scan.width scan.height u v → (x : ℕ) × (y : ℕ) × IsIn scan.width scan.height x y
    × IsNear (tile_of u) (tile_of v) x y × (dark_at scan (pos x) (pos y) ≡ false)
