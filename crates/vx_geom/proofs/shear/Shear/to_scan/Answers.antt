use Rattle.std.proofs.Common.{◌≡◌, ◌∙◌, ap, arith, ◌+ℤ◌, ◌*ℤ◌, to_z, of_z, w32}
use Rattle.std.proofs.lemmas.Int.{ints}
use Rattle.vx_geom.specs.Slants.{whole_of, down_by, right_by, slant_of, scan_row, scan_column}
use Rattle.vx_geom.proofs.Shears.{down_by-shear, right_by-shear, same_product}
use Rattle.vx_geom.proofs.shear.Shear.to_scan.Goals as goal
use Rattle.vx_grid.proofs.MarkPlaces.{same-point}

row : (c : goal.After-moved-u) → to_z w32 (of_z w32 c.moved-v.result) ≡ scan_row (slant_of c.args.self.now) c.args.p.u c.args.p.v
row c =
    let b : to_z w32 (of_z w32 c.args.self.now.b) ≡ c.args.self.now.b = omega (arith, ints, c.requires.b.low, c.requires.b.high) in
    let sy : to_z w32 (of_z w32 c.args.self.now.sy) ≡ c.args.self.now.sy = omega (arith, ints, c.requires.sy.low, c.requires.sy.high) in
    let pu : to_z w32 (of_z w32 c.args.p.u) ≡ c.args.p.u = omega (arith, ints, c.requires.p.u.low, c.requires.p.u.high) in
    let pv : to_z w32 (of_z w32 c.args.p.v) ≡ c.args.p.v = omega (arith, ints, c.requires.p.v.low, c.requires.p.v.high) in
    let rise : to_z w32 (of_z w32 c.rise.result) ≡ c.rise.result = omega (arith, ints, c.rise.ensures.bound.low, c.rise.ensures.bound.high) in
    let is : c.rise.result ≡ whole_of (c.args.self.now.b *ℤ c.args.p.u) = c.rise.ensures.value ∙ ap whole_of (same_product _ _ _ _ b pu) in
    let down : c.args.self.now.sy +ℤ c.rise.result ≡ down_by (slant_of c.args.self.now) c.args.p.u = down_by-shear c.args.self.now c.args.p.u c.rise.result is in
    let same : to_z w32 (of_z w32 c.moved-v.result) ≡ c.moved-v.result = omega (arith, ints, c.moved-v.ensures.bound.low, c.moved-v.ensures.bound.high) in
    same ∙ c.moved-v.ensures.value ∙ omega (arith, ints, sy, pv, rise, down)

column : (c : goal.After-moved-u) → to_z w32 (of_z w32 c.moved-u.result) ≡ scan_column (slant_of c.args.self.now) c.args.p.u c.args.p.v
column c =
    let a : to_z w32 (of_z w32 c.args.self.now.a) ≡ c.args.self.now.a = omega (arith, ints, c.requires.a.low, c.requires.a.high) in
    let sx : to_z w32 (of_z w32 c.args.self.now.sx) ≡ c.args.self.now.sx = omega (arith, ints, c.requires.sx.low, c.requires.sx.high) in
    let pu : to_z w32 (of_z w32 c.args.p.u) ≡ c.args.p.u = omega (arith, ints, c.requires.p.u.low, c.requires.p.u.high) in
    let rise : to_z w32 (of_z w32 c.rise-2.result) ≡ c.rise-2.result = omega (arith, ints, c.rise-2.ensures.bound.low, c.rise-2.ensures.bound.high) in
    let is : c.rise-2.result ≡ whole_of (c.args.self.now.a *ℤ scan_row (slant_of c.args.self.now) c.args.p.u c.args.p.v) = c.rise-2.ensures.value ∙ ap whole_of (same_product _ _ _ _ a (row c)) in
    let right : c.args.self.now.sx +ℤ c.rise-2.result ≡ right_by (slant_of c.args.self.now) (scan_row (slant_of c.args.self.now) c.args.p.u c.args.p.v) = right_by-shear c.args.self.now _ c.rise-2.result is in
    let same : to_z w32 (of_z w32 c.moved-u.result) ≡ c.moved-u.result = omega (arith, ints, c.moved-u.ensures.bound.low, c.moved-u.ensures.bound.high) in
    same ∙ c.moved-u.ensures.value ∙ omega (arith, ints, sx, pu, rise, right)

pub returns : goal.returns
returns c = same-point _ _ (column c) (row c)
