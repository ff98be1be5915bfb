use Rattle.std.proofs.Common.{◌∙◌, ◌-◌, ◌<◌, ℕ, length, get_or, ap, refl, sym, rules, arith, bit_and}
use Rattle.std.proofs.lemmas.Bool.{eqb-true}
use Rattle.vx_bits.proofs.Packing.{packed_row-whole}
use Rattle.vx_bits.proofs.Rasters.{packed_row-light}
use Rattle.vx_bits.proofs.raster.is_packed_row.Goals as goal

pub returns-then-size-eq0 : goal.returns-then-size-eq0
returns-then-size-eq0 c = λ yes.
    let small : (i : ℕ) → get_or c.args.row.now i 0 < 256 = λ i. search (rules, c.type_inv.row i) in
    packed_row-whole c.args.width c.args.row.now _ refl c.requires (omega arith) small

pub returns : goal.returns
returns c = λ yes.
    let small : (i : ℕ) → get_or c.args.row.now i 0 < 256 = λ i. search (rules, c.type_inv.row i) in
    packed_row-light c.args.width c.args.row.now c.requires (omega arith) small
    (ap (bit_and (get_or c.args.row.now (length c.args.row.now - 1) 0)) (sym c.pixel_bits.ensures) ∙ eqb-true _ _ yes)
