use Rattle.std.proofs.Common.{◌≡◌, ◌++◌, List, [], ◌∷◌, ℕ, ap, ◌∙◌}
use Rattle.vx_bits.specs.Packed.{packed_page}
use Rattle.vx_count.proofs.Runs.{rows-padded}
use Rattle.vx_count.proofs.packed.PackedRows.reusing.Goals as goal

pub returns : goal.returns
returns c =
    let items : c.extend_from_slice-2.new.self.items ≡ c.rows-rows.result.now ++ 0 ∷ 0 ∷ 0 ∷ 0 ∷ 0 ∷ 0 ∷ 0 ∷ 0 ∷ [] =
    c.in_ok-extend_from_slice-2.ensures.items ∙ ap (λ (l : List ℕ). l ++ 0 ∷ 0 ∷ 0 ∷ 0 ∷ 0 ∷ 0 ∷ 0 ∷ 0 ∷ []) (c.in_ok-extend_from_slice.ensures.items ∙ ap (λ (l : List ℕ). l ++ c.rows-rows.result.now) (c.in_ok-try_reserve_exact.ensures.items ∙ c.clear.ensures.items)) in
    ap (packed_page c.width.result c.height.result) items
    ∙ rows-padded c.width.result c.height.result c.rows-rows.result.now _ c.args.page.now c.rows-rows.ensures.pixels c.width.ensures.value c.height.ensures.value c.rows-rows.ensures.size
