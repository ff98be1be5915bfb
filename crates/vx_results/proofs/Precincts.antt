-- The precinct of a card.
use Rattle.std.proofs.Common.{◌≡◌, ℕ, zero, suc, ◌<◌, ◌≤◌, Bool, true, false, List, [], ◌∷◌, length, refl, ap, arith}
use Rattle.std.specs.Prelude.{nat_lt, slice_index_or}
use Rattle.vx_base.proofs.Numbers.{below-from_no, below-from_yes}
use Rattle.vx_election_model.specs.declared.election.Election.{Election}
use Rattle.vx_election_model.specs.Valid.{IsValid}
use Rattle.vx_styles.specs.Cards.{card_at, cards_of, no_card}
use Rattle.vx_styles.specs.declared.card.Card.{Card}

-- the precinct of each card is there
abbrev pub PrecinctsAreThere : Type 0
PrecinctsAreThere =
    (election : Election) (card : ℕ) → IsValid election → card < length (cards_of election)
    → (card_at election card).precinct < length election.precincts

past : (cards : List Card) (number : ℕ) → length cards ≤ number → slice_index_or cards number no_card ≡ no_card
past [] number more = refl
past (card ∷ cards) zero more = absurd (omega (arith, more))
past (card ∷ cards) (suc number) more = past cards number (omega (arith, more))

-- it is one of at most 2,000, also where there is no such card
pub precinct-few : PrecinctsAreThere → (election : Election) → IsValid election → (number : ℕ) → (card_at election number).precinct ≤ 2000
precinct-few law election valid number = by (nat_lt number (length (cards_of election))) refl
  where
    by : (b : Bool) → nat_lt number (length (cards_of election)) ≡ b → (card_at election number).precinct ≤ 2000
    by true e =
        omega (
          arith,
          law election number valid (below-from_yes number (length (cards_of election)) e),
          valid.precincts.few,
        )
    by false e =
        let none = ap (λ (card : Card). card.precinct) (past (cards_of election) number (below-from_no number (length (cards_of election)) e)) in
        omega (arith, none)
