use Rattle.std.proofs.Common.{◌==◌, ◌&&◌, ℕ, Bool, sym, ap, ◌∙◌}
use Rattle.std.specs.List.{list_any}
use Rattle.vx_base.proofs.Numbers.{equal-yes}
use Rattle.vx_simulate.proofs.marks.has_option.Goals as goal

pub returns-then-one-bubble : goal.returns-then-one-bubble
returns-then-one-bubble c =
    let some = list_any (λ (option : ℕ). option == c.args.bubble.option) in
    c.is_among.ensures
    ∙ ap some c.as_slice.ensures
    ∙ sym (ap (λ (b : Bool). b && some c.args.one.now.options) (equal-yes c.args.one.now.contest c.args.bubble.contest c.if-one-bubble.true))
