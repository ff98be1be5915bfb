-- The election in the board's data: its contests with their options, and its cards. The members of each object stand in the
-- order of their names' bytes.
use Rattle.std.specs.Prelude.{ℕ, ◌+◌, ◌-◌, List, [], ◌∷◌, length, map, codes, slice_index_or}
use Rattle.std.specs.List.{range_with_len}
use Rattle.serde_json.specs.Data.{Data}
use Rattle.vx_election_model.specs.declared.contest.Contest.{Contest}
use Rattle.vx_election_model.specs.declared.election.Election.{Election}
use Rattle.vx_election_model.specs.Options.{options_of}
use Rattle.vx_styles.specs.declared.card.Card.{Card}
use Rattle.vx_styles.specs.Cards.{card_at, cards_of, contests_of_card, no_style}
use Rattle.vx_markup.specs.Json.{described, list, text, whole}
use Rattle.vx_cvr.specs.Names.{contest_name, selection_name}
use Rattle.vx_cvr.specs.Report.{choice_at, no_precinct}

-- which write-in slot an option is, counted from 1; 0 where it is a choice
abbrev pub slot_of : Contest → ℕ → ℕ
slot_of contest option = option + 1 - length contest.choices

-- an option: its choice's name, which a slot hasn't; its name in the report; and which slot it is
abbrev pub option_data : Contest → ℕ → Data
option_data contest option = described
    ((codes "label", text (choice_at contest option).name)
    ∷ (codes "name", text (selection_name contest.id option))
    ∷ (codes "slot", whole (slot_of contest option)) ∷ [])

-- the options of a contest, in order
abbrev pub options_data : Contest → Data
options_data contest = list (map (option_data contest) (range_with_len 0 (options_of contest)))

-- a contest: its name in the report, its options, how many votes it may have, and its title
abbrev pub contest_with : Contest → List ℕ → Data → Data
contest_with contest name options = described
    ((codes "name", text name)
    ∷ (codes "options", options)
    ∷ (codes "seats", whole contest.seats)
    ∷ (codes "title", text contest.title) ∷ [])

abbrev pub contest_data : Contest → Data
contest_data contest = contest_with contest (contest_name contest.id) (options_data contest)

-- a card: the places of its contests in the election, its precinct's name and its style
abbrev pub card_with : Election → Card → Data → Data
card_with election card contests = described
    ((codes "contests", contests)
    ∷ (codes "precinct", text (slice_index_or election.precincts card.precinct no_precinct).name)
    ∷ (codes "style", text (slice_index_or election.styles card.style no_style).id) ∷ [])

abbrev pub card_data : Election → ℕ → Data
card_data election number =
    card_with election (card_at election number) (list (map whole (contests_of_card election number)))

-- all cards of an election, in order
abbrev pub cards_data : Election → List Data
cards_data election = map (card_data election) (range_with_len 0 (length (cards_of election)))
