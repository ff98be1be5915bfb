-- What `cards` tells of each card: its number, its style and precinct, its pages or why it can't be planned, and its
-- contests.
use Rattle.std.specs.Prelude.{ℕ, ◌==◌, false, List, [], ◌∷◌, ◌++◌, length, chars, codes, encode_utf8, slice_index_or, if◌then◌else◌, Result, Ok, Err}
use Rattle.std.specs.Char.{is_ascii_control}
use Rattle.std.specs.List.{flat_map, range_with_len}
use Rattle.std.specs.Fmt.{decimal}
use Rattle.vx_election_model.specs.declared.election.Election.{Election}
use Rattle.vx_election_model.specs.declared.named.Named.{Named}
use Rattle.vx_styles.specs.Cards.{cards_of, card_at, contests_of_card, no_style}
use Rattle.vx_layout.specs.declared.plan.CardPlan.{CardPlan}
use Rattle.vx_layout.specs.declared.fault.LayoutFault.{LayoutFault}
use Rattle.vx_layout.specs.FaultTexts.{layout_fault_text}
use Rattle.vx_layout.specs.Plan.{plan_of, precinct_name}
use Rattle.vx_command_cards.specs.Lines.{hexadecimal, with_blanks}

-- the id of a style, by its place
abbrev pub style_id : Election → ℕ → List ℕ
style_id election style = (slice_index_or election.styles style no_style).id

-- a precinct where there is none
abbrev pub no_precinct : Named
no_precinct = record { id = []; name = [] }

-- the id of a precinct, by its place
abbrev pub precinct_id : Election → ℕ → List ℕ
precinct_id election precinct = (slice_index_or election.precincts precinct no_precinct).id

-- `card N style STYLEID precinct PRECINCTID`
abbrev pub card_head : Election → ℕ → List ℕ
card_head election number =
    with_blanks (codes "card" ∷ decimal number
    ∷ codes "style" ∷ style_id election (card_at election number).style
    ∷ codes "precinct" ∷ precinct_id election (card_at election number).precinct ∷ [])

-- `pages P`, or `layout FAULT` of a card that can't be planned
abbrev pub planned_words : Result CardPlan LayoutFault → List ℕ
planned_words (Ok plan) = with_blanks (codes "pages" ∷ decimal (length plan.pages) ∷ [])
planned_words (Err fault) = with_blanks (codes "layout" ∷ layout_fault_text fault ∷ [])

-- a control character as `\u00XX`
abbrev pub code_word : ℕ → List ℕ
code_word c = codes "\\u" ++ hexadecimal false c

-- a character of a name as it is told: a backslash twice, a control character by its code, any other as it is
unfoldable pub told_character : ℕ → List ℕ
told_character c =
    if c == 92 then codes "\\\\"
    else if is_ascii_control c then code_word c
    else encode_utf8 c

-- a name as it is told
abbrev pub told_name : List ℕ → List ℕ
told_name name = flat_map told_character (chars name)

-- `contests C NAME`
abbrev pub card_tail : Election → ℕ → List ℕ
card_tail election number =
    with_blanks (codes "contests" ∷ decimal (length (contests_of_card election number))
    ∷ told_name (precinct_name election.precincts (card_at election number).precinct) ∷ [])

-- the line of the card with a number
unfoldable pub card_line : Election → ℕ → List ℕ
card_line election number =
    with_blanks (card_head election number ∷ planned_words (plan_of election number) ∷ card_tail election number ∷ [])

-- the same as one line
abbrev pub card_at_line : Election → ℕ → List (List ℕ)
card_at_line election number = card_line election number ∷ []

-- a line for each card, in order
unfoldable pub card_lines : Election → List (List ℕ)
card_lines election = flat_map (card_at_line election) (range_with_len 0 (length (cards_of election)))
