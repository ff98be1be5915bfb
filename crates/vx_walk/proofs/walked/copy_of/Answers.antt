use Rattle.std.proofs.Common.{◌∙◌, ℕ, List, ap}
use Rattle.vx_bits.specs.Packed.{packed_page}
use Rattle.vx_walk.proofs.walked.copy_of.Goals as goal

pub returns : goal.returns
returns c =
    c.from_rows.ensures
    ∙ ap (λ (items : List ℕ). packed_page c.width.result c.height.result items) c.in_ok-rows.ensures.items
    ∙ ap (λ (width : ℕ). packed_page width c.height.result c.rows.result.now) c.width.ensures.value
    ∙ ap (λ (height : ℕ). packed_page c.args.image.now.width height c.rows.result.now) c.height.ensures.value
    ∙ c.rows.ensures.pixels
