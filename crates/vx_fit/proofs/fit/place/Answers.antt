use Rattle.std.proofs.Common.{ℕ, ℤ, pos, subst, sym, arith, ap, ◌∙◌, ◌≡◌, to_z, of_z, w32, ◌+◌}
use Rattle.std.proofs.lemmas.Int.{ints}
use Rattle.std.proofs.lemmas.Option.{get_or_from_slice_get}
use Rattle.vx_grid.specs.declared.paper.Paper.{Paper}
use Rattle.vx_grid.specs.declared.places.Point.{Point}
use Rattle.vx_grid.specs.Places.{IsWithin, IsPointWithin, point_at}
use Rattle.vx_grid.specs.Paper.{last_row}
use Rattle.vx_grid.proofs.MarkPlaces.{same-point}
use Rattle.vx_fit.specs.Fit.{left_mark, right_mark, between, place_between}
use Rattle.vx_fit.proofs.fit.place.Goals as goal

same_within : (z w : ℤ) → w ≡ z → IsWithin 9000 z → IsWithin 9000 w
same_within z w e h = let Within : ℤ → Type 0 = λ x. IsWithin 9000 x in subst Within (sym e) h

left_is : (a b : Paper) (row n : ℕ) → n ≡ left_mark (last_row a) row → a ≡ b → left_mark (last_row b) row ≡ n
left_is a b row n is same = sym (is ∙ ap (λ p. left_mark (last_row p) row) same)

pub between-requires-clause-a : goal.between-requires-clause-a
between-requires-clause-a c =
    let p : IsPointWithin 9000 c.at-left.result = c.requires.border _ c.at-left.result c.at-left.ensures.place in
    same_within c.at-left.result.u _ (omega (arith, ints, p.u.low, p.u.high)) p.u

pub between-requires-clause-b : goal.between-requires-clause-b
between-requires-clause-b c =
    let p : IsPointWithin 9000 c.at-right.result = c.requires.border _ c.at-right.result c.at-right.ensures.place in
    same_within c.at-right.result.u _ (omega (arith, ints, p.u.low, p.u.high)) p.u

pub between-requires-2-clause-a : goal.between-requires-2-clause-a
between-requires-2-clause-a c =
    let p : IsPointWithin 9000 c.at-left.result = c.requires.border _ c.at-left.result c.at-left.ensures.place in
    same_within c.at-left.result.v _ (omega (arith, ints, p.v.low, p.v.high)) p.v

pub between-requires-2-clause-b : goal.between-requires-2-clause-b
between-requires-2-clause-b c =
    let p : IsPointWithin 9000 c.at-right.result = c.requires.border _ c.at-right.result c.at-right.ensures.place in
    same_within c.at-right.result.v _ (omega (arith, ints, p.v.low, p.v.high)) p.v

pub returns-clause-value : goal.returns-clause-value
returns-clause-value c =
    let origin : Point = record { u = pos 0; v = pos 0 } in
    let left : point_at c.args.border.now.places (left_mark (last_row c.args.border.now.paper) c.args.row) ≡ c.at-left.result =
    ap (point_at c.args.border.now.places) (left_is c.paper.result c.args.border.now.paper c.args.row c.left_mark.result c.left_mark.ensures.value c.paper.ensures) ∙ get_or_from_slice_get c.args.border.now.places c.left_mark.result c.at-left.result origin c.at-left.ensures.place in
    let right : point_at c.args.border.now.places (right_mark c.args.row) ≡ c.at-right.result =
    get_or_from_slice_get c.args.border.now.places (33 + c.args.row) c.at-right.result origin c.at-right.ensures.place in
    let p : IsPointWithin 9000 c.at-left.result = c.requires.border c.left_mark.result c.at-left.result c.at-left.ensures.place in
    let q : IsPointWithin 9000 c.at-right.result = c.requires.border (33 + c.args.row) c.at-right.result c.at-right.ensures.place in
    let lu : to_z w32 (of_z w32 c.at-left.result.u) ≡ c.at-left.result.u = omega (arith, ints, p.u.low, p.u.high) in
    let lv : to_z w32 (of_z w32 c.at-left.result.v) ≡ c.at-left.result.v = omega (arith, ints, p.v.low, p.v.high) in
    let ru : to_z w32 (of_z w32 c.at-right.result.u) ≡ c.at-right.result.u = omega (arith, ints, q.u.low, q.u.high) in
    let rv : to_z w32 (of_z w32 c.at-right.result.v) ≡ c.at-right.result.v = omega (arith, ints, q.v.low, q.v.high) in
    let bu : to_z w32 (of_z w32 c.between.result) ≡ c.between.result = omega (arith, ints, c.between.ensures.bound.low, c.between.ensures.bound.high) in
    let bv : to_z w32 (of_z w32 c.between-2.result) ≡ c.between-2.result = omega (arith, ints, c.between-2.ensures.bound.low, c.between-2.ensures.bound.high) in
    let u : to_z w32 (of_z w32 c.between.result) ≡ between c.at-left.result.u c.at-right.result.u c.args.col =
    bu ∙ (c.between.ensures.value ∙ (ap (λ z. between z (to_z w32 (of_z w32 c.at-right.result.u)) c.args.col) lu ∙ ap (λ z. between c.at-left.result.u z c.args.col) ru)) in
    let v : to_z w32 (of_z w32 c.between-2.result) ≡ between c.at-left.result.v c.at-right.result.v c.args.col =
    bv ∙ (c.between-2.ensures.value ∙ (ap (λ z. between z (to_z w32 (of_z w32 c.at-right.result.v)) c.args.col) lv ∙ ap (λ z. between c.at-left.result.v z c.args.col) rv)) in
    same-point _ _ u v
    ∙ (ap (λ (x : Point). place_between x c.at-right.result c.args.col) (sym left)
    ∙ ap (λ (x : Point). place_between (point_at c.args.border.now.places (left_mark (last_row c.args.border.now.paper) c.args.row)) x c.args.col) (sym right))
