use Rattle.std.proofs.Common.{◌≡◌, ℕ, ◌<◌, length, get_or, sym, ap, ◌∙◌, arith}
use Rattle.std.proofs.lemmas.List.{get_or_read}
use Rattle.vx_styles.specs.declared.card.Card.{Card}
use Rattle.vx_styles.specs.Cards.{cards_from, no_style, no_card}
use Rattle.vx_styles.proofs.CardLaws.{left-there, card-here}
use Rattle.vx_styles.proofs.styles.style_of_card.Goals as goal

pub returns : goal.returns
returns c =
    let styles = c.args.styles.now in
    let place = c.loop-left.place in
    let style = c.index-styles-place-2.result in
    let there : place < length styles = left-there styles place place c.loop-left.left c.loop-left.invariant.there in
    let here : (get_or (cards_from 0 styles) c.args.card no_card).style ≡ place =
    ap (λ (card : Card). card.style) c.loop-left.invariant.same
    ∙ card-here styles place c.loop-left.left c.index-styles-place.result there (omega (arith, c.loop-left-test.false, c.len.ensures)) in
    get_or_read styles place style there c.index-styles-place-2.is no_style ∙ ap (λ (k : ℕ). get_or styles k no_style) (sym here)
