-- The rectangles of the outline of a bubble are its outline.
use Rattle.std.proofs.Common.{◌≡◌, ℕ, ◌+◌, ◌-◌, ◌<◌, ◌≤◌, List, [], ◌∷◌, Bool, true, false, ◌&&◌, ◌||◌, not, nat_le, ◌⊎◌, inl, inr, ℤ, pos, negsuc, ◌+ℤ◌, ◌-ℤ◌, int_le, int_lt, ◌<ℤ◌, ◌≤ℤ◌, refl, ap, ap₂, sym, ◌∙◌, arith}
use Rattle.std.proofs.lemmas.Bool.{cases_lt, and_parts}
use Rattle.std.proofs.lemmas.Bool.Decides.{nat_tests}
use Rattle.std.proofs.lemmas.Int.{ints}
use Rattle.vx_plane.specs.Plane.{Page, rows_of, page_of, dark_at, rectangle, any_of, placed}
use Rattle.vx_plane.proofs.Pages.{dark_at-inside}
use Rattle.vx_layout.specs.Print.{outer_ellipse, inner_ellipse, bubble_box, outline}
use Rattle.vx_raster.specs.declared.stamp.Patch.{Patch}
use Rattle.vx_raster.specs.declared.outline.TheConstants.{OUTLINE}
use Rattle.vx_raster.specs.Shape.{patch_pixels}

-- a place that isn't in the box of so many columns and rows
abbrev IsOutside : ℕ → ℕ → ℤ → ℤ → Type 0
IsOutside width height a b = (a <ℤ pos 0) ⊎ (pos width ≤ℤ a) ⊎ (b <ℤ pos 0) ⊎ (pos height ≤ℤ b)

-- whether all rectangles of a shape lie in such a box
abbrev fits : ℕ → ℕ → List Patch → Bool
fits width height [] = true
fits width height (patch ∷ rest) =
    (nat_le (patch.left + patch.width) width && nat_le (patch.top + patch.height) height) && fits width height rest

from_moved : (x left : ℕ) (u : ℤ) → int_le (pos (x + left)) u ≡ int_le (pos (0 + left)) (u -ℤ pos x)
from_moved x left u = grind (arith, ints)

to_moved : (x left width : ℕ) (u : ℤ) → int_lt u (pos (x + left) +ℤ pos width) ≡ int_lt (u -ℤ pos x) (pos (0 + left) +ℤ pos width)
to_moved x left width u = grind (arith, ints)

rectangle_moved : (x y left top width height : ℕ) (u v : ℤ) → rectangle (pos (x + left)) (pos (y + top)) width height u v ≡ rectangle (pos (0 + left)) (pos (0 + top)) width height (u -ℤ pos x) (v -ℤ pos y)
rectangle_moved x y left top width height u v =
    ap₂ (λ (a b : Bool). a && b)
    (ap₂ (λ (a b : Bool). a && b) (from_moved x left u) (to_moved x left width u))
    (ap₂ (λ (a b : Bool). a && b) (from_moved y top v) (to_moved y top height v))

-- a shape at a place is the shape, moved
moved : (shape : List Patch) (x y : ℕ) (u v : ℤ) → any_of shape (patch_pixels x y) u v ≡ any_of shape (patch_pixels 0 0) (u -ℤ pos x) (v -ℤ pos y)
moved [] x y u v = refl
moved (patch ∷ rest) x y u v =
    ap₂ (λ (a b : Bool). a || b)
    (rectangle_moved x y patch.left patch.top patch.width patch.height u v)
    (moved rest x y u v)

-- inside the box both are the same, place by place
same_pages : page_of 40 26 (any_of OUTLINE (patch_pixels 0 0)) ≡ page_of 40 26 (λ a b. outline (a -ℤ pos 20) (b -ℤ pos 13))
unfolding rows_of outline
same_pages = refl

-- outside of it both have no place
patch-outside : (width height : ℕ) (patch : Patch) (a b : ℤ) → nat_le (patch.left + patch.width) width && nat_le (patch.top + patch.height) height ≡ true → IsOutside width height a b → patch_pixels 0 0 patch a b ≡ false
patch-outside width height patch a b within out = grind (arith, ints, nat_tests)

shape-outside : (width height : ℕ) (shape : List Patch) (a b : ℤ) → fits width height shape ≡ true → IsOutside width height a b → any_of shape (patch_pixels 0 0) a b ≡ false
shape-outside width height [] a b within out = refl
shape-outside width height (patch ∷ rest) a b within out =
    let parts : (nat_le (patch.left + patch.width) width && nat_le (patch.top + patch.height) height ≡ true) × (fits width height rest ≡ true) = and_parts _ _ within in
    ap₂ (λ (p q : Bool). p || q)
    (patch-outside width height patch a b parts.0 out)
    (shape-outside width height rest a b parts.1 out)

box-outside : (a b : ℤ) → IsOutside 40 26 a b → bubble_box (a -ℤ pos 20) (b -ℤ pos 13) ≡ false
box-outside a b out = grind (arith, ints)

outline-outside : (a b : ℤ) → IsOutside 40 26 a b → outline (a -ℤ pos 20) (b -ℤ pos 13) ≡ false
unfolding outline
outline-outside a b out =
    let i = a -ℤ pos 20 in
    let j = b -ℤ pos 13 in
    ap (λ (t : Bool). t && (outer_ellipse i j && not (inner_ellipse i j))) (box-outside a b out)

apart : (a b : ℤ) → IsOutside 40 26 a b → any_of OUTLINE (patch_pixels 0 0) a b ≡ outline (a -ℤ pos 20) (b -ℤ pos 13)
apart a b out = shape-outside 40 26 OUTLINE a b refl out ∙ sym (outline-outside a b out)

inside : (x y : ℕ) → x < 40 → y < 26 → any_of OUTLINE (patch_pixels 0 0) (pos x) (pos y) ≡ outline (pos x -ℤ pos 20) (pos y -ℤ pos 13)
inside x y l h =
    sym (dark_at-inside 40 26 x y (any_of OUTLINE (patch_pixels 0 0)) l h)
    ∙ (ap (λ (page : Page). dark_at page (pos x) (pos y)) same_pages
    ∙ dark_at-inside 40 26 x y (λ a b. outline (a -ℤ pos 20) (b -ℤ pos 13)) l h)

-- so both are the same everywhere
agree : (a b : ℤ) → any_of OUTLINE (patch_pixels 0 0) a b ≡ outline (a -ℤ pos 20) (b -ℤ pos 13)
agree (pos x) (pos y) =
    elim (cases_lt x 40) [
      | inl l ↦ elim (cases_lt y 26) [
        | inl h ↦ inside x y l h
        | inr under ↦ apart (pos x) (pos y) (inr (inr (inr (omega (arith, ints)))))
      ]
      | inr beside ↦ apart (pos x) (pos y) (inr (inl (omega (arith, ints))))
    ]
agree (pos x) (negsuc y) = apart (pos x) (negsuc y) (inr (inr (inl (omega (arith, ints)))))
agree (negsuc x) b = apart (negsuc x) b (inl (omega (arith, ints)))

-- the rectangles of the outline round a grid point
pub any_of-outline : (x y : ℕ) (u v : ℤ) → 20 ≤ x → 13 ≤ y → any_of OUTLINE (patch_pixels (x - 20) (y - 13)) u v ≡ placed (pos x) (pos y) outline u v
any_of-outline x y u v l h =
    let across : (u -ℤ pos (x - 20)) -ℤ pos 20 ≡ u -ℤ pos x = omega (arith, ints) in
    let down : (v -ℤ pos (y - 13)) -ℤ pos 13 ≡ v -ℤ pos y = omega (arith, ints) in
    moved OUTLINE (x - 20) (y - 13) u v
    ∙ (agree (u -ℤ pos (x - 20)) (v -ℤ pos (y - 13))
    ∙ ap₂ (λ (i j : ℤ). outline i j) across down)
