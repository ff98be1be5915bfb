use Rattle.std.proofs.Common.{◌≡◌, ◌<◌, ◌∙◌, ◌==◌, ℕ, List, [], ap, arith, length}
use Rattle.std.specs.Prelude.{slice_index_or}
use Rattle.std.specs.List.{list_any}
use Rattle.std.proofs.lemmas.List.{get_or_read}
use Rattle.vx_styles.specs.Cards.{contests_of_card}
use Rattle.vx_results.proofs.Searching.{cards_listed, contests_at}
use Rattle.vx_results.proofs.standing.has_contest.Goals as goal

pub offset_bounds-lists-card : goal.offset_bounds-lists-card
offset_bounds-lists-card c = omega (arith, c.requires.there, c.cards_are_few.ensures c.args.election.now c.requires.valid)

pub bounds-lists-card : goal.bounds-lists-card
bounds-lists-card c = omega (arith, c.requires.there, ap length c.requires.lists, cards_listed c.args.election.now)

pub returns : goal.returns
returns c =
    let inside : c.args.card < length c.args.lists.now = omega (arith, c.requires.there, ap length c.requires.lists, cards_listed c.args.election.now) in
    let list : c.as_slice.result.now ≡ contests_of_card c.args.election.now c.args.card =
    c.as_slice.ensures ∙ get_or_read c.args.lists.now c.args.card c.index-lists-card.result inside c.index-lists-card.is []
    ∙ ap (λ (lists : List (List ℕ)). slice_index_or lists c.args.card []) c.requires.lists ∙ contests_at c.args.election.now c.args.card c.requires.there in
    c.is_among.ensures ∙ ap (list_any (λ other. c.args.contest == other)) list
