use Rattle.std.proofs.Common.{◌≡◌, ◌∙◌, SFits, w32, sym, rules}
use Rattle.std.proofs.lemmas.Int.{to_z-of_z}
use Rattle.vx_count.specs.Cut.{IsCut}
use Rattle.vx_count.proofs.Cutting.{count_in-cut}
use Rattle.vx_count.proofs.Turning.{shown-whole, shown-width, shown-height}
use Rattle.vx_count.proofs.counter.Counter.dark_in.Goals as goal

pub returns : goal.returns
returns c =
    let fit_left : SFits w32 c.args.rect.left = search rules in
    let fit_top : SFits w32 c.args.rect.top = search rules in
    let across : IsCut c.args.rect.left c.args.rect.width c.width.result c.cut_at_frame-columns.result.first c.cut_at_frame-columns.result.count = simp to_z-of_z at c.cut_at_frame-columns.ensures in
    let down : IsCut c.args.rect.top c.args.rect.height c.height.result c.cut_at_frame-rows.result.first c.cut_at_frame-rows.result.count = simp to_z-of_z at c.cut_at_frame-rows.ensures in
    let wide : c.width.result ≡ c.args.self.now.width = c.width.ensures.value ∙ shown-width c.self.inside.turned c.self.inside.sums c.args.self.now c.self.view_is in
    let high : c.height.result ≡ c.args.self.now.height = c.height.ensures ∙ shown-height c.self.inside.turned c.self.inside.sums c.args.self.now c.self.view_is in
    c.dark_in_frame.ensures
    ∙ sym (count_in-cut c.args.self.now c.args.rect.left c.args.rect.top c.args.rect.width c.args.rect.height _ _ _ _
    (shown-whole c.self.inside.turned c.self.inside.sums c.args.self.now c.self.invariant.whole c.self.view_is)
    (rw wide at across) (rw high at down))
