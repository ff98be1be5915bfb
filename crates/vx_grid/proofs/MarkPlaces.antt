-- Where the timing marks of a page stand, and what makes two places one.
use Rattle.std.proofs.Common.{◌≡◌, ℕ, ◌≤◌, ◌<◌, ap, ◌∙◌, arith}
use Rattle.std.proofs.lemmas.Bool.Decides.{nat_tests}
use Rattle.vx_grid.specs.declared.places.Point.{Point}
use Rattle.vx_grid.specs.Marks.{marks_to, mark_of}

-- a mark's column and row are those of the grid
pub mark-column : (last k : ℕ) → 40 ≤ last → k < marks_to last → (mark_of last k).0 ≤ 33
mark-column last k many few = grind (arith, nat_tests)

pub mark-row : (last k : ℕ) → 40 ≤ last → k < marks_to last → (mark_of last k).1 ≤ last
mark-row last k many few = grind (arith, nat_tests)

-- two places in one column and one row are one
pub same-point : (p q : Point) → p.u ≡ q.u → p.v ≡ q.v → p ≡ q
same-point p q e f =
    ap (λ z. let r : Point = record { u = z; v = p.v } in r) e ∙ ap (λ z. let r : Point = record { u = q.u; v = z } in r) f
