use Rattle.std.proofs.Common.{◌∙◌, ap}
use Rattle.vx_bits.specs.Packed.{packed_page}
use Rattle.vx_bits.proofs.page.BitPage.view.Goals as goal

pub returns : goal.returns
returns c = c.new.ensures ∙ ap (packed_page c.self.inside.width c.self.inside.height) c.as_slice.ensures.value ∙ c.self.view_is
