use Rattle.std.proofs.Common.{◌≡◌, ◌∙◌, ap, ℕ, ℤ, to_z, of_z, w64}
use Rattle.vx_grid.specs.Borders.{MarkPlaces}
use Rattle.vx_fit.specs.Fit.{place_of}
use Rattle.vx_desk.specs.Regions as spec
use Rattle.vx_desk.proofs.Wide.{same_wide, wider}
use Rattle.vx_desk.proofs.region.x_of.Goals as goal

pub returns : goal.returns
returns c =
    let place : to_z w64 (of_z w64 c.place_u-middle.result) ≡ (place_of c.args.image.now.reading.border c.args.bubble.col c.args.bubble.row).u =
    same_wide c.place_u-middle.result (wider _ c.place_u-middle.ensures.near) ∙ c.place_u-middle.ensures.value
    ∙ ap {A = ℕ} {B = ℤ} (λ (row : ℕ). (place_of c.border.result.now c.args.bubble.col row).u) c.from.ensures
    ∙ ap {A = MarkPlaces} {B = ℤ} (λ (border : MarkPlaces). (place_of border c.args.bubble.col c.args.bubble.row).u) c.border.ensures in
    c.behind.ensures ∙ ap {A = ℤ} {B = ℕ} (λ (a : ℤ). spec.behind c.args.region.left a) place
