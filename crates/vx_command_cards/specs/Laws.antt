-- That the hollow boxes which `cards` tells of are those that the plan of a card counts, and that no name makes a line.
use Rattle.std.specs.Prelude.{◌≡◌, ℕ, ◌+◌, ◌==◌, Bool, length, chars, count_by}
use Rattle.vx_election_model.specs.Valid.{IsValid}
use Rattle.vx_election_model.specs.declared.election.Election.{Election}
use Rattle.vx_layout.specs.declared.lines.TextLine.{TextLine}
use Rattle.vx_layout.specs.Plan.{hollow_in}
use Rattle.vx_command_cards.specs.declared.flaw.Flaw.TheVariants.{Hollow, Blank, Cut}
use Rattle.vx_command_cards.specs.Alike.{alike_lines}
use Rattle.vx_command_cards.specs.Cards.{card_lines}
use Rattle.vx_command_cards.specs.Drawn.{is_hollow}
use Rattle.vx_command_cards.specs.Outcome.{cards_text}
use Rattle.vx_command_cards.specs.Texts.{flaw_lines}

-- a plan counts of each line the characters that are drawn as the hollow box
abbrev pub PlansCountHollow : Type 0
PlansCountHollow = (line : TextLine) → hollow_in line ≡ count_by is_hollow (chars line.text)

-- whether a byte is a line feed
abbrev pub is_feed : ℕ → Bool
is_feed b = b == 10

-- the text of an election has as many line feeds as `cards` counts lines, and that of the sums: whatever its names are,
-- none of them makes a line
abbrev pub FeedsAreLines : Type 0
FeedsAreLines =
    (election : Election) → IsValid election
    → count_by is_feed (cards_text election)
    ≡ length (card_lines election) + length (flaw_lines Hollow election) + length (flaw_lines Blank election)
    + length (flaw_lines Cut election) + length (alike_lines election) + 1
