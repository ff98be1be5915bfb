use Rattle.std.proofs.Common.{◌∙◌}
use Rattle.std.proofs.lemmas.List.{with_items_is}
use Rattle.vx_bits.proofs.Packing.{packed-put_at}
use Rattle.vx_bits.proofs.page.BitPage.set_dark.Goals as goal

pub returns : goal.returns
returns c =
    packed-put_at c.self.inside.width c.self.inside.height c.args.x c.args.y c.stride.result c.self.inside.rows.items c.deref_mut.result.now c.put.new.rows _ c.args.dark c.args.self.now
    c.stride.ensures c.deref_mut.ensures.value (with_items_is c.self.inside.rows c.put.new.rows (c.put.auto.rows ∙ c.deref_mut.ensures.len))
    c.self.view_is c.requires.column c.requires.row c.put.ensures.same c.put.ensures.others
