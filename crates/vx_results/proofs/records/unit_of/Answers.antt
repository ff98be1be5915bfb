use Rattle.std.proofs.Common.{◌≡◌, ◌∙◌, List, ap, arith}
use Rattle.std.specs.Prelude.{slice_index_or}
use Rattle.vx_styles.specs.Cards.{card_at, no_card}
use Rattle.vx_styles.specs.declared.card.Card.{Card}
use Rattle.vx_results.proofs.Precincts.{precinct-few}
use Rattle.vx_results.proofs.records.unit_of.Goals as goal

pub overflow_add-result : goal.overflow_add-result
overflow_add-result c =
    let few = precinct-few c.each_card_has_its_precinct.ensures c.args.election.now c.requires.valid c.args.number in
    let is : c.card_at-card.result.precinct ≡ (card_at c.args.election.now c.args.number).precinct =
    ap (λ (card : Card). card.precinct)
    (c.card_at-card.ensures ∙ ap (λ (cards : List Card). slice_index_or cards c.args.number no_card) c.requires.cards) in
    omega (arith, few, is)
