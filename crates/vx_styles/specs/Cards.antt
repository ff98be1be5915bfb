-- The cards of an election, and the contests on a card.
use Rattle.std.specs.Prelude.{ℕ, ◌+◌, ◌&&◌, ◌==◌, Bool, true, false, List, [], ◌∷◌, ◌++◌, map, slice_index_or, if◌then◌else◌, Option, Some, None}
use Rattle.std.specs.List.{list_any}
use Rattle.vx_election_model.specs.declared.contest.Contest.{Contest}
use Rattle.vx_election_model.specs.declared.style.Style.{Style}
use Rattle.vx_election_model.specs.declared.election.Election.{Election}
use Rattle.vx_styles.specs.declared.card.Card.{Card}

-- the cards of a style: one for each of its precincts, in their order
abbrev pub cards_of_style : ℕ → List ℕ → List Card
cards_of_style style precincts = map (λ precinct. record { style = style; precinct = precinct }) precincts

-- the cards of the styles, the first of which stands at the place
abbrev pub cards_from : ℕ → List Style → List Card
cards_from place [] = []
cards_from place (style ∷ styles) = cards_of_style place style.precincts ++ cards_from (place + 1) styles

-- the cards of an election: the styles in order, and for each its precincts in order
abbrev pub cards_of : Election → List Card
cards_of election = cards_from 0 election.styles

-- whether a contest is for the voters of a party: it has no party, or that one
abbrev pub is_open_to : Option ℕ → Option ℕ → Bool
is_open_to None party = true
is_open_to (Some place) None = false
is_open_to (Some place) (Some other) = place == other

-- whether a style has a contest: its district is among the style's, and its party is none or the style's
abbrev pub has_contest : Style → Contest → Bool
has_contest style contest = list_any (λ place. contest.district == place) style.districts && is_open_to contest.party style.party

-- the places of a style's contests, the first of which stands at the place
abbrev pub contests_from : Style → ℕ → List Contest → List ℕ
contests_from style place [] = []
contests_from style place (contest ∷ contests) = if has_contest style contest then place ∷ contests_from style (place + 1) contests else contests_from style (place + 1) contests

-- a style where there is none
abbrev pub no_style : Style
no_style = record { id = []; precincts = []; districts = []; party = None }

-- a card where there is none
abbrev pub no_card : Card
no_card = record { style = 0; precinct = 0 }

-- the card at a place
abbrev pub card_at : Election → ℕ → Card
card_at election card = slice_index_or (cards_of election) card no_card

-- the style of the card at a place among those of the styles
abbrev pub style_of_card : List Style → ℕ → Style
style_of_card styles card = slice_index_or styles (slice_index_or (cards_from 0 styles) card no_card).style no_style

-- the contests of a card, in the election's order
abbrev pub contests_of_card : Election → ℕ → List ℕ
contests_of_card election card = contests_from (style_of_card election.styles card) 0 election.contests
