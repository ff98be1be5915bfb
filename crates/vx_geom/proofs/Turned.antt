-- A slant, seen from the other end.
use Rattle.std.proofs.Common.{◌≡◌, ℕ, ◌<◌, ℤ, pos, negsuc, ◌+ℤ◌, ◌-ℤ◌, ◌*ℤ◌, ◌≤ℤ◌, refl, ap, ◌∙◌, arith}
use Rattle.std.proofs.lemmas.Int.{ints}
use Rattle.vx_geom.specs.Slants.{Slant, IsSlant, whole_of, down_by, right_by, paper_column, paper_row}
use Rattle.vx_geom.specs.Turned.{natural_of, rest_of, row_parts, column_parts, turned_slant}
use Rattle.vx_geom.proofs.Products.{product-moved}
use Rattle.vx_geom.proofs.Floors.{IsFloor, whole_of-is}

natural-is : (z : ℤ) → pos 0 ≤ℤ z → pos (natural_of z) ≡ z
natural-is (pos n) h = refl
natural-is (negsuc n) h = absurd (omega (arith, ints, h))

rest-is : (z : ℤ) → pos (rest_of z) ≡ z -ℤ (pos 4096 *ℤ whole_of z)
rest-is z = let f = whole_of-is z in natural-is _ (omega (arith, ints, f.low))

rest-few : (z : ℤ) → rest_of z < 4096
rest-few z = let f = whole_of-is z in omega (arith, ints, rest-is z, f.high)

-- there is one whole
one-whole : (z f g : ℤ) → IsFloor z f → IsFloor z g → f ≡ g
one-whole z f g a b = omega (arith, ints, a.low, a.high, b.low, b.high)

-- the whole of parts that are counted from the other end
other-end : (z : ℤ) → whole_of (pos 4095 -ℤ z) ≡ pos 0 -ℤ whole_of z
other-end z =
    let f = whole_of-is z in
    one-whole (pos 4095 -ℤ z) _ _ (whole_of-is (pos 4095 -ℤ z))
    (record { low = omega (arith, ints, f.high); high = omega (arith, ints, f.low) })

-- the whole of parts with some whole 4096ths more
whole-more : (z m : ℤ) → whole_of (z -ℤ (pos 4096 *ℤ m)) ≡ whole_of z -ℤ m
whole-more z m =
    let f = whole_of-is z in
    one-whole (z -ℤ (pos 4096 *ℤ m)) _ _ (whole_of-is (z -ℤ (pos 4096 *ℤ m)))
    (record { low = omega (arith, ints, f.low); high = omega (arith, ints, f.high) })

-- parts along a way from the other end
parts-turned : (a along length : ℤ) (p : ℕ) → whole_of ((a *ℤ along) +ℤ pos (rest_of ((pos 4095 -ℤ pos p) -ℤ (a *ℤ length))))
    ≡ (pos 0 -ℤ whole_of ((a *ℤ (length -ℤ along)) +ℤ pos p)) -ℤ whole_of ((pos 4095 -ℤ pos p) -ℤ (a *ℤ length))
parts-turned a along length p =
    let k : ℤ = (pos 4095 -ℤ pos p) -ℤ (a *ℤ length) in
    let rest : pos (rest_of k) ≡ k -ℤ (pos 4096 *ℤ whole_of k) = rest-is k in
    let product : a *ℤ length ≡ (a *ℤ along) +ℤ (a *ℤ (length -ℤ along)) = product-moved a length along in
    let same : (a *ℤ along) +ℤ pos (rest_of k) ≡ (pos 4095 -ℤ ((a *ℤ (length -ℤ along)) +ℤ pos p)) -ℤ (pos 4096 *ℤ whole_of k) =
    omega (arith, ints, rest, product) in
    ap whole_of same ∙ whole-more (pos 4095 -ℤ ((a *ℤ (length -ℤ along)) +ℤ pos p)) (whole_of k)
    ∙ ap (λ z. z -ℤ whole_of k) (other-end ((a *ℤ (length -ℤ along)) +ℤ pos p))

module _ (columns rows width height : ℤ) (s : Slant) where
  abbrev t : Slant
  t = turned_slant columns rows width height s

  pub turned-slant : IsSlant s → IsSlant t
  turned-slant slant = record { a = slant.a; b = slant.b; p = rest-few (row_parts s columns); q = rest-few (column_parts s height) }

  pub down-turned : (x : ℤ) → down_by t x ≡ (height -ℤ rows) -ℤ down_by s (columns -ℤ x)
  unfolding down_by
  down-turned x =
      let turned = parts-turned s.b x columns s.p in
      omega (arith, ints, turned)

  pub right-turned : (v : ℤ) → right_by t v ≡ (width -ℤ columns) -ℤ right_by s (height -ℤ v)
  unfolding right_by
  right-turned v =
      let turned = parts-turned s.a v height s.q in
      omega (arith, ints, turned)

  -- a place of the turned scan shows the turned place of the paper
  pub column-turned : (u v : ℤ) → paper_column t u v ≡ columns -ℤ paper_column s (width -ℤ u) (height -ℤ v)
  column-turned u v = omega (arith, ints, right-turned v)

  pub row-turned : (u v : ℤ) → paper_row t u v ≡ rows -ℤ paper_row s (width -ℤ u) (height -ℤ v)
  row-turned u v =
      let back : columns -ℤ paper_column t u v ≡ paper_column s (width -ℤ u) (height -ℤ v) = omega (arith, ints, column-turned u v) in
      let down : down_by t (paper_column t u v) ≡ (height -ℤ rows) -ℤ down_by s (paper_column s (width -ℤ u) (height -ℤ v)) =
      down-turned (paper_column t u v) ∙ ap (λ z. (height -ℤ rows) -ℤ down_by s z) back in
      omega (arith, ints, down)
