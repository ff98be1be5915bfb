-- A core that meets two marks.
use Rattle.std.proofs.Common.{◌≡◌, ⊎_elim, ℕ, ◌+◌, ◌*◌, ◌≤◌, pos, ◌+ℤ◌, ◌-ℤ◌, ◌≤ℤ◌, sym, subst, arith}
use Rattle.std.proofs.lemmas.Int.{ints}
use Rattle.std.proofs.lemmas.Bool.{cases_lt}
use Rattle.vx_plane.specs.Plane.{Pixels}
use Rattle.vx_plane.specs.Count.{outside_of}
use Rattle.vx_plane.proofs.Pages.{rectangle-sides}
use Rattle.vx_grid.specs.declared.paper.Paper.{Paper}
use Rattle.vx_grid.specs.declared.places.Point.{Point}
use Rattle.vx_grid.specs.Places.{IsWithin}
use Rattle.vx_grid.specs.Grid.{x_of, y_of}
use Rattle.vx_geom.specs.Slants.{Slant, IsSlant, paper_column, paper_row}
use Rattle.vx_geom.specs.Seen.{seen}
use Rattle.vx_geom.proofs.Ways.{is-rigid}
use Rattle.vx_margin.specs.Marks.{AreMarks, image_of}
use Rattle.vx_margin.specs.Deficits.{light_core}
use Rattle.vx_margin.specs.Laws.{MeetsMark, CoresBetweenMarksAreLight}
use Rattle.vx_margin.proofs.Parts.{count_in-at_least}
use Rattle.vx_margin.proofs.Found.{is_light, light-right, mark-near, wider, sum-within}

module _ (s : Slant) (slant : IsSlant s) (paper : Paper) (marks : Pixels) (are : AreMarks paper marks) (p : Point) where
  -- a place of the core
  core-sides : (c r : ℕ) (m : MeetsMark s paper p c r) → IsWithin 17 (p.u -ℤ m.u) × IsWithin 5 (p.v -ℤ m.v)
  core-sides c r m =
      let sides = rectangle-sides (p.u -ℤ pos 17) (p.v -ℤ pos 5) 34 10 m.u m.v m.in_core in (
        record { low = omega (arith, ints, sides.1); high = omega (arith, ints, sides.0) },
        record { low = omega (arith, ints, sides.3); high = omega (arith, ints, sides.2) },
      )

  -- between a mark and the one right of it ten columns are light in each row
  between-light : (c r : ℕ) → MeetsMark s paper p c r → MeetsMark s paper p (c + 1) r → 10 * 10 ≤ light_core (seen s marks) p
  between-light c r m n =
      let q : Point = image_of s paper c r in
      let o : Point = image_of s paper (c + 1) r in
      let at = mark-near s slant paper c r m.u m.v m.in_mark in
      let next = mark-near s slant paper (c + 1) r n.u n.v n.in_mark in
      let here = core-sides c r m in
      let there = rectangle-sides (p.u -ℤ pos 17) (p.v -ℤ pos 5) 34 10 n.u n.v n.in_core in
      let apart = (is-rigid s slant).scan (pos (x_of (c + 1))) (pos (y_of paper r)) (pos (x_of c)) (pos (y_of paper r))
      (record { low = omega (arith, ints); high = omega (arith, ints) }) (record { low = omega (arith, ints); high = omega (arith, ints) }) in
      let right : pos 47 ≤ℤ (o.u -ℤ q.u) = omega (arith, ints, apart.across.low) in
      count_in-at_least (q.u +ℤ pos 19) (p.v -ℤ pos 5) 10 10 (p.u -ℤ pos 17) (p.v -ℤ pos 5) 34 10 (outside_of (seen s marks))
      (omega (arith, ints, at.across.high, here.0.high)) (omega (arith, ints, right, next.across.low, there.1)) (omega (arith, ints)) (omega (arith, ints))
      (λ u v a b d e. is_light _ (light-right s slant paper marks are c r m.point u v (omega (arith, ints, a)) (omega (arith, ints, b))
      (record { low = omega (arith, ints, d, here.1.low, at.down.low); high = omega (arith, ints, e, here.1.high, at.down.high) })))

-- two marks that a core meets stand side by side
pub cores-light : CoresBetweenMarksAreLight
cores-light s paper marks p c r d t slant are m n apart =
    let here = core-sides s slant paper marks are p c r m in
    let there = core-sides s slant paper marks are p d t n in
    let across : IsWithin 34 (m.u -ℤ n.u) = record { low = omega (arith, ints, here.0.high, there.0.low); high = omega (arith, ints, here.0.low, there.0.high) } in
    let down : IsWithin 10 (m.v -ℤ n.v) = record { low = omega (arith, ints, here.1.high, there.1.low); high = omega (arith, ints, here.1.low, there.1.high) } in
    let alike = (is-rigid s slant).paper m.u m.v n.u n.v (wider 34 63 _ (omega arith) across) (wider 10 64 _ (omega arith) down) in
    let columns : IsWithin 35 (paper_column s m.u m.v -ℤ paper_column s n.u n.v) = sum-within 1 34 _ _ alike.across across in
    let rows : IsWithin 11 (paper_row s m.u m.v -ℤ paper_row s n.u n.v) = sum-within 1 10 _ _ alike.down down in
    let row : r ≡ t = omega (arith, ints, rows.low, rows.high, m.in_mark.top, m.in_mark.bottom, n.in_mark.top, n.in_mark.bottom) in
    let left : d ≤ c + 1 = omega (arith, ints, columns.low, m.in_mark.right, n.in_mark.left) in
    let right : c ≤ d + 1 = omega (arith, ints, columns.high, m.in_mark.left, n.in_mark.right) in
    let Meets : ℕ → ℕ → Type 0 = λ a b. MeetsMark s paper p a b in
    let light : 10 * 10 ≤ light_core (seen s marks) p =
    ⊎_elim
    (λ before.
    let next : d ≡ c + 1 = omega (arith, before, left) in
    between-light s slant paper marks are p c r m (subst (λ (a : ℕ). Meets a r) next (subst (λ (b : ℕ). Meets d b) (sym row) n)))
    (λ past. ⊎_elim
    (λ after.
    let next : c ≡ d + 1 = omega (arith, after, right) in
    between-light s slant paper marks are p d t n (subst (λ (a : ℕ). Meets a t) next (subst (λ (b : ℕ). Meets c b) row m)))
    (λ same. absurd (apart (omega (arith, past, same), row)))
    (cases_lt d c))
    (cases_lt c d) in
    omega (arith, light)
