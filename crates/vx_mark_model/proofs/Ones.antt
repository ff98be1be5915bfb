-- A scan has one corner at most, and there is one best place near another at most.
use Rattle.std.proofs.Common.{◌≡◌, inl, inr, ◌+ℤ◌, arith, sym}
use Rattle.std.proofs.lemmas.Int.{ints, by_lt_z}
use Rattle.std.proofs.lemmas.Bool.{cases_lt}
use Rattle.vx_plane.specs.Plane.{Page}
use Rattle.vx_grid.specs.declared.places.Point.{Point}
use Rattle.vx_grid.proofs.MarkPlaces.{same-point}
use Rattle.vx_mark_model.specs.Mark.{deficit_of}
use Rattle.vx_mark_model.specs.Corner.{ComesBefore, IsCorner}
use Rattle.vx_mark_model.specs.Best.{IsBetter, IsBest}

-- of two different places one is first
either-first : (p q : Point) → (ComesBefore p q → ⊥) → (ComesBefore q p → ⊥) → p ≡ q
either-first p q a b =
    let sums : p.u +ℤ p.v ≡ q.u +ℤ q.v =
    by_lt_z (p.u +ℤ p.v) (q.u +ℤ q.v) (λ l. absurd (a (inl l)))
    (λ m. by_lt_z (q.u +ℤ q.v) (p.u +ℤ p.v) (λ l. absurd (b (inl l))) (λ n. omega (arith, ints))) in
    let rows : p.v ≡ q.v =
    by_lt_z p.v q.v (λ l. absurd (a (inr (sums, l)))) (λ m. by_lt_z q.v p.v (λ l. absurd (b (inr (sym sums, l)))) (λ n. omega (arith, ints))) in
    same-point p q (omega (arith, ints)) rows

-- there is at most one corner
pub corner-unique : (page : Page) (p q : Point) → IsCorner page p → IsCorner page q → p ≡ q
corner-unique page p q a b = either-first p q (b.first p a.accepted a.in_region) (a.first q b.accepted b.in_region)

-- of two different places one is better
either-better : (page : Page) (p q : Point) → (IsBetter page p q → ⊥) → (IsBetter page q p → ⊥) → p ≡ q
either-better page p q a b =
    elim (cases_lt (deficit_of page p) (deficit_of page q)) [
      | inl c ↦ absurd (a (inl c))
      | inr c ↦ elim (cases_lt (deficit_of page q) (deficit_of page p)) [
        | inl d ↦ absurd (b (inl d))
        | inr d ↦
            let same : deficit_of page p ≡ deficit_of page q = omega arith in
            let back : deficit_of page q ≡ deficit_of page p = omega arith in
            let rows : p.v ≡ q.v =
            by_lt_z p.v q.v (λ l. absurd (a (inr (inl (same, l)))))
            (λ m. by_lt_z q.v p.v (λ l. absurd (b (inr (inl (back, l))))) (λ n. omega (arith, ints))) in
            let columns : p.u ≡ q.u =
            by_lt_z p.u q.u (λ l. absurd (a (inr (inr (same, rows, l)))))
            (λ m. by_lt_z q.u p.u (λ l. absurd (b (inr (inr (back, sym rows, l))))) (λ n. omega (arith, ints))) in
            same-point p q columns rows
      ]
    ]

-- there is at most one best place
pub best-unique : (page : Page) (predicted p q : Point) → IsBest page predicted p → IsBest page predicted q → p ≡ q
best-unique page predicted p q a b = either-better page p q (b.best p a.accepted a.near) (a.best q b.accepted b.near)
