-- Grid places lie near the images of their grid points.
use Rattle.std.proofs.Common.{◌≡◌, ℕ, ◌+◌, ◌-◌, ◌*◌, ◌≤◌, ◌<◌, ℤ, pos, negsuc, ◌+ℤ◌, ◌-ℤ◌, ◌*ℤ◌, ◌≤ℤ◌, ◌<ℤ◌, ap, sym, ◌∙◌, arith}
use Rattle.std.proofs.lemmas.Int.{ints}
use Rattle.std.proofs.Math.Nat.{add-mul}
use Rattle.std.specs.Int.{int_div_euclid}
use Rattle.vx_grid.specs.declared.paper.Paper.{Paper}
use Rattle.vx_grid.specs.declared.places.Point.{Point}
use Rattle.vx_grid.specs.Places.{IsWithin}
use Rattle.vx_grid.specs.Grid.{x_of, y_of}
use Rattle.vx_fit.specs.Fit.{part_of, between, place_between}
use Rattle.vx_geom.specs.Slants.{Slant, IsSlant, whole_of, down_by, right_by, scan_row, scan_column}
use Rattle.vx_geom.proofs.Products.{product-within}
use Rattle.vx_geom.proofs.Floors.{whole_of-is}
use Rattle.vx_margin.specs.Marks.{image_of, LiesNear}
use Rattle.vx_margin.proofs.Weights.{times, times-sum, times-less, times-add, times-natural, times-33, times-product, times_sum, times-slope, times-within, floors-mean}

-- so many 33rds, rounded down
pub record IsFloor33 (z f : ℤ) : Type 0 where
  pub low : (pos 33 *ℤ f) ≤ℤ z
  pub high : z <ℤ ((pos 33 *ℤ f) +ℤ pos 33)

part_of-is : (d : ℤ) (c : ℕ) → IsFloor33 (d *ℤ pos c) (part_of d c)
part_of-is d c = floor33 (d *ℤ pos c)
  where
    floor33 : (z : ℤ) → IsFloor33 z (int_div_euclid z (pos 33))
    floor33 (pos n) = record { low = omega (arith, ints); high = omega (arith, ints) }
    floor33 (negsuc n) = record { low = omega (arith, ints); high = omega (arith, ints) }

-- a place between two others is their mean, less a part below one
between-mean : (d c : ℕ) (a b : ℤ) → d + c ≡ 33
    → ((pos 33 *ℤ between a b c) ≤ℤ (times d a +ℤ times c b)) × ((times d a +ℤ times c b) ≤ℤ ((pos 33 *ℤ between a b c) +ℤ pos 32))
between-mean d c a b all =
    let floor : IsFloor33 ((b -ℤ a) *ℤ pos c) (part_of (b -ℤ a) c) = part_of-is (b -ℤ a) c in
    let way : (b -ℤ a) *ℤ pos c ≡ times c b -ℤ times c a = times-product c (b -ℤ a) ∙ times-less c b a in
    let whole : times d a +ℤ times c a ≡ pos 33 *ℤ a = sym (times-add d c a) ∙ ap (λ n. times n a) all ∙ times-33 a in
    (omega (arith, ints, floor.low, way, whole), omega (arith, ints, floor.high, way, whole))

-- the number of parts along a line
abbrev parts : ℤ → ℕ → ℤ → ℤ
parts a p x = (a *ℤ x) +ℤ pos p

-- a mean of places along a line has the mean of their parts
parts-mean : (d c p : ℕ) (a x y z e : ℤ) → d + c ≡ 33 → times 33 z ≡ (times d x +ℤ times c y) +ℤ e
    → times 33 (parts a p z) ≡ (times d (parts a p x) +ℤ times c (parts a p y)) +ℤ (a *ℤ e)
parts-mean d c p a x y z e all mean =
    let sum_z : times 33 (parts a p z) ≡ times 33 (a *ℤ z) +ℤ times 33 (pos p) = times-sum 33 (a *ℤ z) (pos p) in
    let sum_x : times d (parts a p x) ≡ times d (a *ℤ x) +ℤ times d (pos p) = times-sum d (a *ℤ x) (pos p) in
    let sum_y : times c (parts a p y) ≡ times c (a *ℤ y) +ℤ times c (pos p) = times-sum c (a *ℤ y) (pos p) in
    let ps : times d (pos p) +ℤ times c (pos p) ≡ times 33 (pos p) = sym (times-add d c (pos p)) ∙ ap (λ n. times n (pos p)) all in
    let slope_z : times 33 (a *ℤ z) ≡ a *ℤ times 33 z = times-slope 33 a z in
    let slope_x : times d (a *ℤ x) ≡ a *ℤ times d x = times-slope d a x in
    let slope_y : times c (a *ℤ y) ≡ a *ℤ times c y = times-slope c a y in
    let along : a *ℤ times 33 z ≡ a *ℤ ((times d x +ℤ times c y) +ℤ e) = ap (λ w. a *ℤ w) mean in
    let outer : a *ℤ ((times d x +ℤ times c y) +ℤ e) ≡ (a *ℤ (times d x +ℤ times c y)) +ℤ (a *ℤ e) = times_sum a (times d x +ℤ times c y) e in
    let inner : a *ℤ (times d x +ℤ times c y) ≡ (a *ℤ times d x) +ℤ (a *ℤ times c y) = times_sum a (times d x) (times c y) in
    together (times 33 (parts a p z)) (times d (parts a p x)) (times c (parts a p y)) (times 33 (a *ℤ z)) (times d (a *ℤ x)) (times c (a *ℤ y))
    (times 33 (pos p)) (times d (pos p)) (times c (pos p)) (a *ℤ e)
    sum_z sum_x sum_y ps
    (slope_z ∙ along ∙ outer ∙ (ap (λ w. w +ℤ (a *ℤ e)) (inner ∙ ap (λ w. w +ℤ (a *ℤ times c y)) (sym slope_x) ∙ ap (λ w. times d (a *ℤ x) +ℤ w) (sym slope_y))))
  where
    together : (z x y az ax ay pz px py e : ℤ) → z ≡ az +ℤ pz → x ≡ ax +ℤ px → y ≡ ay +ℤ py → px +ℤ py ≡ pz → az ≡ (ax +ℤ ay) +ℤ e → z ≡ (x +ℤ y) +ℤ e
    together z x y az ax ay pz px py e f g h i j = omega (arith, ints, f, g, h, i, j)

-- what a slope moves the mean of two places by is the mean of what it moves them by, nearly
abbrev moved_by : ℤ → ℤ → ℕ → ℤ → ℤ
moved_by o a p x = o +ℤ whole_of (parts a p x)

line-mean : (d c p k m : ℕ) (o a x y z e : ℤ) → d + c ≡ 33 → IsWithin 64 a → times 33 z ≡ (times d x +ℤ times c y) +ℤ e → IsWithin k e
    → 33 * 4095 + 64 * k < 4096 * (m + 1)
    → IsWithin m (times 33 (moved_by o a p z) -ℤ (times d (moved_by o a p x) +ℤ times c (moved_by o a p y)))
line-mean d c p k m o a x y z e all slope mean near room =
    let rest : IsWithin (64 * k) (a *ℤ e) = product-within 64 k a e slope near in
    let floors : IsWithin (33 * 4095 + 64 * k) (pos 4096 *ℤ (times 33 (whole_of (parts a p z)) -ℤ (times d (whole_of (parts a p x)) +ℤ times c (whole_of (parts a p y))))) =
    floors-mean d c (64 * k) (parts a p x) (parts a p y) (parts a p z) (a *ℤ e) _ _ _ all (whole_of-is (parts a p x)) (whole_of-is (parts a p y)) (whole_of-is (parts a p z))
    (parts-mean d c p a x y z e all mean) rest in
    let sum_z : times 33 (moved_by o a p z) ≡ times 33 o +ℤ times 33 (whole_of (parts a p z)) = times-sum 33 o _ in
    let sum_x : times d (moved_by o a p x) ≡ times d o +ℤ times d (whole_of (parts a p x)) = times-sum d o _ in
    let sum_y : times c (moved_by o a p y) ≡ times c o +ℤ times c (whole_of (parts a p y)) = times-sum c o _ in
    let os : times d o +ℤ times c o ≡ times 33 o = sym (times-add d c o) ∙ ap (λ n. times n o) all in
    together (times 33 (moved_by o a p z)) (times d (moved_by o a p x)) (times c (moved_by o a p y)) _ _ _ (times 33 o) (times d o) (times c o) (33 * 4095 + 64 * k) m sum_z sum_x sum_y os floors room
  where
    together : (z x y wz wx wy oz ox oy : ℤ) (n m : ℕ) → z ≡ oz +ℤ wz → x ≡ ox +ℤ wx → y ≡ oy +ℤ wy → ox +ℤ oy ≡ oz
        → IsWithin n (pos 4096 *ℤ (wz -ℤ (wx +ℤ wy))) → n < 4096 * (m + 1) → IsWithin m (z -ℤ (x +ℤ y))
    together z x y wz wx wy oz ox oy n m f g h i within room = record {
      low = omega (arith, ints, f, g, h, i, within.low, room);
      high = omega (arith, ints, f, g, h, i, within.high, room);
    }

-- a mean of exact places, and of what they are moved by
added-mean : (d c m : ℕ) (x y z fx fy fz : ℤ) → times 33 z ≡ (times d x +ℤ times c y) +ℤ pos 0 → IsWithin m (times 33 fz -ℤ (times d fx +ℤ times c fy))
    → IsWithin m (times 33 (z +ℤ fz) -ℤ (times d (x +ℤ fx) +ℤ times c (y +ℤ fy)))
added-mean d c m x y z fx fy fz mean h =
    let sum_z : times 33 (z +ℤ fz) ≡ times 33 z +ℤ times 33 fz = times-sum 33 z fz in
    let sum_x : times d (x +ℤ fx) ≡ times d x +ℤ times d fx = times-sum d x fx in
    let sum_y : times c (y +ℤ fy) ≡ times c y +ℤ times c fy = times-sum c y fy in
    record { low = omega (arith, ints, mean, h.low, sum_x, sum_y, sum_z); high = omega (arith, ints, mean, h.high, sum_x, sum_y, sum_z) }

-- the place between two others that lie near the ends of a line lies near its mean
near-mean : (d c k m n : ℕ) (left right x y z : ℤ) → d + c ≡ 33 → IsWithin k (left -ℤ x) → IsWithin k (right -ℤ y)
    → IsWithin m (times 33 z -ℤ (times d x +ℤ times c y)) → 33 * k + m + 32 < 33 * (n + 1) → IsWithin n (between left right c -ℤ z)
near-mean d c k m n left right x y z all at_left at_right mean room =
    let between_is = between-mean d c left right all in
    let off_left : IsWithin (d * k) (times d (left -ℤ x)) = times-within d k (left -ℤ x) at_left in
    let off_right : IsWithin (c * k) (times c (right -ℤ y)) = times-within c k (right -ℤ y) at_right in
    let less_left : times d (left -ℤ x) ≡ times d left -ℤ times d x = times-less d left x in
    let less_right : times c (right -ℤ y) ≡ times c right -ℤ times c y = times-less c right y in
    let area : d * k + c * k ≡ 33 * k = sym (mul-add d c k) ∙ ap (λ i. i * k) all in
    let whole : times 33 z ≡ pos 33 *ℤ z = times-33 z in
    record {
      low = omega (arith, ints, room, area, whole, mean.low, mean.high, off_left.low, off_right.low, less_left, less_right, between_is.1);
      high = omega (arith, ints, room, area, whole, mean.low, mean.high, off_left.high, off_right.high, less_left, less_right, between_is.0);
    }
  where
    mul-add : (a b n : ℕ) → (a + b) * n ≡ a * n + b * n
    mul-add a b n = add-mul a b n

module _ (s : Slant) (slant : IsSlant s) (paper : Paper) (c d r : ℕ) (all : d + c ≡ 33) where
  abbrev x : ℕ → ℤ
  x k = pos (x_of k)

  abbrev y : ℤ
  y = pos (y_of paper r)

  columns-exact : times 33 (x c) ≡ (times d (x 0) +ℤ times c (x 33)) +ℤ pos 0
  columns-exact = omega (arith, ints, times-natural 33 (x_of c), times-natural d (x_of 0), times-natural c (x_of 33), all)

  rows-exact : times 33 y ≡ (times d y +ℤ times c y) +ℤ pos 0
  rows-exact =
      let whole : times d y +ℤ times c y ≡ times 33 y = sym (times-add d c y) ∙ ap (λ n. times n y) all in
      omega (arith, ints, whole)

  no-rest : IsWithin 0 (pos 0)
  no-rest = record { low = omega (arith, ints); high = omega (arith, ints) }

  down-mean : IsWithin 32 (times 33 (down_by s (x c)) -ℤ (times d (down_by s (x 0)) +ℤ times c (down_by s (x 33))))
  unfolding down_by
  down-mean = line-mean d c s.p 0 32 s.sy s.b (x 0) (x 33) (x c) (pos 0) all slant.b columns-exact no-rest (omega arith)

  rows-mean : IsWithin 32 (times 33 (scan_row s (x c) y) -ℤ (times d (scan_row s (x 0) y) +ℤ times c (scan_row s (x 33) y)))
  rows-mean = added-mean d c 32 y y y _ _ _ rows-exact down-mean

  right-mean : IsWithin 33 (times 33 (right_by s (scan_row s (x c) y)) -ℤ (times d (right_by s (scan_row s (x 0) y)) +ℤ times c (right_by s (scan_row s (x 33) y))))
  unfolding right_by
  right-mean =
      line-mean d c s.q 32 33 s.sx s.a (scan_row s (x 0) y) (scan_row s (x 33) y) (scan_row s (x c) y)
      (times 33 (scan_row s (x c) y) -ℤ (times d (scan_row s (x 0) y) +ℤ times c (scan_row s (x 33) y))) all slant.a
      (omega (arith, ints)) rows-mean (omega arith)

  columns-mean : IsWithin 33 (times 33 (scan_column s (x c) y) -ℤ (times d (scan_column s (x 0) y) +ℤ times c (scan_column s (x 33) y)))
  columns-mean = added-mean d c 33 (x 0) (x 33) (x c) _ _ _ columns-exact right-mean

  near-between : (left right : Point) → LiesNear 4 2 left (image_of s paper 0 r) → LiesNear 4 2 right (image_of s paper 33 r)
      → LiesNear 6 4 (place_between left right c) (image_of s paper c r)
  near-between left right at_left at_right = record {
    across = near-mean d c 4 33 6 left.u right.u _ _ _ all at_left.across at_right.across columns-mean (omega arith);
    down = near-mean d c 2 32 4 left.v right.v _ _ _ all at_left.down at_right.down rows-mean (omega arith);
  }

-- the grid place of a grid point between places that belong to its row's marks lies near its image
pub grid-near : (s : Slant) → IsSlant s → (paper : Paper) (c r : ℕ) (left right : Point) → c ≤ 33
    → LiesNear 4 2 left (image_of s paper 0 r) → LiesNear 4 2 right (image_of s paper 33 r)
    → LiesNear 6 4 (place_between left right c) (image_of s paper c r)
grid-near s slant paper c r left right few at_left at_right =
    near-between s slant paper c (33 - c) r (omega (arith, few)) left right at_left at_right
