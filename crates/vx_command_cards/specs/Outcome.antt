-- What `cards` writes and does: it takes its election, and writes one text.
use Rattle.std.specs.Prelude.{ℕ, List, [], ◌∷◌, ◌++◌, length, codes}
use Rattle.std.specs.Fmt.{decimal}
use Rattle.vx_election_model.specs.declared.election.Election.{Election}
use Rattle.vx_io.specs.Outside.{Files}
use Rattle.vx_command.specs.Acts.{Outcome, writing}
use Rattle.vx_command.specs.Elections.{once_election}
use Rattle.vx_command_cards.specs.declared.flaw.Flaw.TheVariants.{Hollow, Blank, Cut}
use Rattle.vx_command_cards.specs.Lines.{with_blanks, ended, text_of}
use Rattle.vx_command_cards.specs.Cards.{card_lines}
use Rattle.vx_command_cards.specs.Texts.{flaw_lines}
use Rattle.vx_command_cards.specs.Alike.{alike_lines}

-- `cards N hollow H blank B cut U alike A`: how many lines of each kind there are
abbrev pub sums_line : ℕ → ℕ → ℕ → ℕ → ℕ → List ℕ
sums_line cards hollow blank cut alike =
    with_blanks (codes "cards" ∷ decimal cards ∷ codes "hollow" ∷ decimal hollow ∷ codes "blank" ∷ decimal blank
    ∷ codes "cut" ∷ decimal cut ∷ codes "alike" ∷ decimal alike ∷ [])

-- the lines of the cards, of hollow boxes, of texts that show nothing, of cut words and of choices that look alike, and
-- then how many they are
unfoldable pub cards_text : Election → List ℕ
cards_text election =
    text_of (card_lines election)
    ++ text_of (flaw_lines Hollow election)
    ++ text_of (flaw_lines Blank election)
    ++ text_of (flaw_lines Cut election)
    ++ text_of (alike_lines election)
    ++ ended (sums_line (length (card_lines election)) (length (flaw_lines Hollow election))
    (length (flaw_lines Blank election)) (length (flaw_lines Cut election)) (length (alike_lines election)))

-- `cards` of the election under a name
abbrev pub cards_outcome : List ℕ → Files → Outcome
cards_outcome election files = once_election (files election) (λ given. writing (cards_text given))
