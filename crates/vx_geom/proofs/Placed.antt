-- Counts of a shape that is put at a place.
use Rattle.std.proofs.Common.{◌≡◌, ℕ, ℤ, ◌+ℤ◌, ◌-ℤ◌, ap, ◌∙◌, arith}
use Rattle.std.proofs.lemmas.Int.{ints}
use Rattle.vx_plane.specs.Plane.{Pixels, placed}
use Rattle.vx_plane.specs.Count.{count_in}
use Rattle.vx_plane.proofs.Counts.{count_in-moved, count_in-same}

-- a shape that is put at a place is counted round it
pub placed-count : (left top cx cy : ℤ) (width height : ℕ) (shape : Pixels)
    → count_in (left +ℤ cx) (top +ℤ cy) width height (placed cx cy shape) ≡ count_in left top width height shape
placed-count left top cx cy width height shape =
    count_in-moved left top cx cy width height (placed cx cy shape)
    ∙ count_in-same left top width height (λ u v. placed cx cy shape (u +ℤ cx) (v +ℤ cy)) shape
    (λ u v a b c d.
    let across : (u +ℤ cx) -ℤ cx ≡ u = omega (arith, ints) in
    let down : (v +ℤ cy) -ℤ cy ≡ v = omega (arith, ints) in
    ap (λ z. shape z ((v +ℤ cy) -ℤ cy)) across ∙ ap (λ z. shape u z) down)
