use Rattle.std.proofs.Common.{◌≡◌, ◌++◌, ◌<◌, ◌%◌, ◌*◌, ◌^◌, ◌-◌, ℕ, [], length, take, get_or, ◌∷◌, arith, ap, sym, refl, rules, ◌∙◌, append_assoc, append-nil, bit_and}
use Rattle.std.proofs.lemmas.List.{nil_from_length}
use Rattle.vx_bits.specs.Packed.{packed_row, unpacked, padding_of}
use Rattle.vx_bits.proofs.Packing.{packed_row-whole, packed_row-padded}
use Rattle.vx_bits.proofs.raster.append_row.Goals as goal

pub returns-then-size-eq0-clause-ok : goal.returns-then-size-eq0-clause-ok
returns-then-size-eq0-clause-ok c =
    let small : (i : ℕ) → get_or c.args.row.now i 0 < 256 = λ i. search (rules, c.type_inv.row i) in
    let none : c.args.row.now ≡ [] = nil_from_length c.args.row.now (omega arith) in
    sym (append-nil c.args.into.now) ∙ ap (λ s. c.args.into.now ++ s) (sym (packed_row-whole c.args.width c.args.row.now _ refl c.requires (omega arith) small ∙ none))

pub returns-clause-ok : goal.returns-clause-ok
returns-clause-ok c =
    let small : (i : ℕ) → get_or c.args.row.now i 0 < 256 = λ i. search (rules, c.type_inv.row i) in
    let padded : packed_row (unpacked c.args.width c.args.row.now) ≡ take (length c.args.row.now - 1) c.args.row.now ++ bit_and (get_or c.args.row.now (length c.args.row.now - 1) 0) (255 * 2 ^ padding_of c.args.width % 256) ∷ [] =
    packed_row-padded c.args.width (padding_of c.args.width) c.args.row.now _ refl c.requires (omega arith) (omega arith) (omega arith) small in
    c.in_ok-push.ensures
    ∙ (ap (λ s. s ++ bit_and (get_or c.args.row.now (length c.args.row.now - 1) 0) c.pixel_bits.result ∷ []) c.in_ok-extend_from_slice.ensures
    ∙ (append_assoc c.args.into.now _ _
    ∙ (ap (λ m. c.args.into.now ++ (take (length c.args.row.now - 1) c.args.row.now ++ bit_and (get_or c.args.row.now (length c.args.row.now - 1) 0) m ∷ [])) c.pixel_bits.ensures
    ∙ ap (λ s. c.args.into.now ++ s) (sym padded))))
