use Rattle.std.proofs.Common.{Bool, ◌&&◌, not, ap, sym, ◌∙◌}
use Rattle.std.specs.List.{list_all}
use Rattle.vx_command_cards.specs.Drawn.{is_blank, shows_nothing}
use Rattle.vx_command_cards.proofs.drawn.shows_nothing.Goals as goal

pub returns-then-not-is_empty : goal.returns-then-not-is_empty
unfolding shows_nothing
returns-then-not-is_empty c =
    let all = list_all is_blank c.args.characters.now in
    c.are_blank.ensures ∙ sym (ap (λ (b : Bool). not b && all) (sym c.is_empty.ensures ∙ c.if-not-is_empty.true))

pub returns-else-not-is_empty : goal.returns-else-not-is_empty
unfolding shows_nothing
returns-else-not-is_empty c =
    let all = list_all is_blank c.args.characters.now in
    ap not c.if-not-is_empty.false ∙ sym (ap (λ (b : Bool). not b && all) (sym c.is_empty.ensures ∙ c.if-not-is_empty.false))
