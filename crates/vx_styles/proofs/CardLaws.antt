-- Cards name styles, precincts and contests that are there.
use Rattle.std.proofs.Common.{◌≡◌, ℕ, zero, suc, ◌+◌, ◌≤◌, ◌<◌, List, [], ◌∷◌, ◌++◌, length, drop, get_or, Bool, true, false, cond, refl, sym, ap, ◌∙◌, arith, length-append}
use Rattle.std.specs.List.{All}
use Rattle.std.proofs.lemmas.List.{length-map, at_drop_more, get_or_append_left, get_or-map}
use Rattle.std.proofs.lemmas.List.Elements.{All-nil, All-cons, All-head, All-tail, All-append, All-map, All-weaker, All-get_or}
use Rattle.std.proofs.lemmas.List.Sums.{sum_by-cons}
use Rattle.vx_election_model.specs.declared.contest.Contest.{Contest}
use Rattle.vx_election_model.specs.declared.style.Style.{Style}
use Rattle.vx_election_model.specs.declared.election.Election.{Election}
use Rattle.vx_election_model.specs.Lists.{card_count}
use Rattle.vx_election_model.specs.Valid.{IsValid, IsStyle}
use Rattle.vx_styles.specs.declared.card.Card.{Card}
use Rattle.vx_styles.specs.Cards.{cards_of_style, cards_from, cards_of, has_contest, no_card, card_at, style_of_card, contests_from, contests_of_card}

-- there are as many cards as the styles have precincts
length-cards_from : (place : ℕ) (styles : List Style) → length (cards_from place styles) ≡ card_count styles
length-cards_from place [] = refl
length-cards_from place (style ∷ styles) =
    length-append (cards_of_style place style.precincts) (cards_from (place + 1) styles)
    ∙ ap (λ (n : ℕ). n + length (cards_from (place + 1) styles)) (length-map style.precincts _)
    ∙ ap (λ (n : ℕ). length style.precincts + n) (length-cards_from (place + 1) styles)
    ∙ sym (sum_by-cons (λ (s : Style). length s.precincts) style styles)

pub few-cards : (election : Election) → IsValid election → length (cards_of election) ≤ 1024
few-cards election valid = omega (arith, length-cards_from 0 election.styles, valid.styles.cards)

-- where cards are left from a style on, that style is there
pub left-there : (styles : List Style) (k place left : ℕ) → left < length (cards_from place (drop k styles)) → k < length styles
left-there [] zero place left lt = absurd (omega (arith, lt))
left-there [] (suc k) place left lt = absurd (omega (arith, lt))
left-there (style ∷ styles) zero place left lt = omega arith
left-there (style ∷ styles) (suc k) place left lt = omega (arith, left-there styles k place left lt)

-- the cards from a style on are its own, and those from the next on
pub cards-parted : (styles : List Style) (place : ℕ) (d : Style) → place < length styles → cards_from place (drop place styles) ≡ cards_of_style place (get_or styles place d).precincts ++ cards_from (place + 1) (drop (place + 1) styles)
cards-parted styles place d lt = at_drop_more (cards_from place) styles place d lt

-- the card is one of the style's own
pub card-here : (styles : List Style) (place left : ℕ) (d : Style) → place < length styles → left < length (get_or styles place d).precincts → (get_or (cards_from place (drop place styles)) left no_card).style ≡ place
card-here styles place left d lt here =
    let own = cards_of_style place (get_or styles place d).precincts in
    let as_many : length own ≡ length (get_or styles place d).precincts = length-map (get_or styles place d).precincts _ in
    ap (λ (cards : List Card). (get_or cards left no_card).style) (cards-parted styles place d lt)
    ∙ ap (λ (card : Card). card.style) (get_or_append_left own (cards_from (place + 1) (drop (place + 1) styles)) no_card left (omega (arith, as_many, here)))
    ∙ ap (λ (card : Card). card.style) (get_or-map (λ (precinct : ℕ). let card : Card = record { style = place; precinct = precinct } in card) (get_or styles place d).precincts left 0 no_card here)

abbrev HasPrecinct : ℕ → Card → Type 0
HasPrecinct limit card = card.precinct < limit

module _ (parties districts precincts : ℕ) where
  precincts-below : (place : ℕ) (styles : List Style) → All (IsStyle parties districts precincts) styles → All (HasPrecinct precincts) (cards_from place styles)
  precincts-below place [] are = All-nil (HasPrecinct precincts)
  precincts-below place (style ∷ styles) are =
      let is = All-head (IsStyle parties districts precincts) style styles are in
      All-append (HasPrecinct precincts) (cards_of_style place style.precincts) (cards_from (place + 1) styles)
      (All-map (HasPrecinct precincts) (λ (precinct : ℕ). let card : Card = record { style = place; precinct = precinct } in card) style.precincts is.precincts.each)
      (precincts-below (place + 1) styles (All-tail (IsStyle parties districts precincts) style styles are))

pub precinct-there : (election : Election) (card : ℕ) → IsValid election → card < length (cards_of election) → (card_at election card).precinct < length election.precincts
precinct-there election card valid there =
    All-get_or (HasPrecinct (length election.precincts)) (cards_of election) card no_card there
    (precincts-below (length election.parties) (length election.districts) (length election.precincts) 0 election.styles valid.styles.each)

-- so many numbers at most, each from a first one on and below its end
record AreFrom (low count : ℕ) (numbers : List ℕ) : Type 0 where
  few : length numbers ≤ count
  each : All (λ number. number < low + count) numbers

with_one : (low count : ℕ) (here : Bool) (numbers : List ℕ) → AreFrom (low + 1) count numbers → AreFrom low (suc count) (cond here (low ∷ numbers) numbers)
with_one low count true numbers are = record {
  few = omega (arith, are.few);
  each =
      All-cons (λ number. number < low + suc count) low numbers (omega arith)
      (All-weaker (λ number. number < (low + 1) + count) (λ number. number < low + suc count) (λ number h. omega (arith, h)) numbers are.each);
}
with_one low count false numbers are = record {
  few = omega (arith, are.few);
  each = All-weaker (λ number. number < (low + 1) + count) (λ number. number < low + suc count) (λ number h. omega (arith, h)) numbers are.each;
}

from-there : (style : Style) (place : ℕ) (contests : List Contest) → AreFrom place (length contests) (contests_from style place contests)
from-there style place [] = record { few = omega arith; each = All-nil (λ number. number < place + 0) }
from-there style place (contest ∷ contests) =
    with_one place (length contests) (has_contest style contest) (contests_from style (place + 1) contests) (from-there style (place + 1) contests)

pub contests-there : (election : Election) (card : ℕ) → All (λ number. number < length election.contests) (contests_of_card election card)
contests-there election card =
    let are = from-there (style_of_card election.styles card) 0 election.contests in
    All-weaker (λ number. number < 0 + length election.contests) (λ number. number < length election.contests) (λ number h. omega (arith, h)) (contests_of_card election card) are.each

pub few-contests : (election : Election) (card : ℕ) → IsValid election → length (contests_of_card election card) ≤ 500
few-contests election card valid =
    let are = from-there (style_of_card election.styles card) 0 election.contests in
    omega (arith, are.few, valid.contests.few)
