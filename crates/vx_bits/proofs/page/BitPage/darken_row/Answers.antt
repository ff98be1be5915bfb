use Rattle.std.proofs.Common.{◌∙◌}
use Rattle.std.proofs.lemmas.List.{with_items_is}
use Rattle.vx_bits.proofs.Filling.{packed-fill_at}
use Rattle.vx_bits.proofs.page.BitPage.darken_row.Goals as goal

pub returns : goal.returns
returns c =
    packed-fill_at c.self.inside.width c.self.inside.height c.args.run.left c.args.run.right c.args.y c.stride.result c.self.inside.rows.items c.deref_mut.result.now c.darken_run.new.rows _ c.args.self.now
    c.stride.ensures c.deref_mut.ensures.value (with_items_is c.self.inside.rows c.darken_run.new.rows (c.darken_run.auto.rows ∙ c.deref_mut.ensures.len))
    c.self.view_is c.requires.run.some c.requires.columns c.requires.row c.darken_run.ensures
