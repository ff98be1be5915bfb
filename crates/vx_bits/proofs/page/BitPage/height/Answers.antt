use Rattle.vx_bits.proofs.Packing.{packed-whole}
use Rattle.vx_bits.proofs.page.BitPage.height.Goals as goal

pub returns-clause-whole : goal.returns-clause-whole
returns-clause-whole c = packed-whole c.self.inside.width c.self.inside.height c.self.inside.rows.items _ c.self.view_is
