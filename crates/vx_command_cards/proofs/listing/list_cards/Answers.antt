use Rattle.std.proofs.Common.{◌≡◌, length, ap, arith}
use Rattle.vx_styles.specs.Cards.{cards_of}
use Rattle.vx_command_cards.specs.Cards.{card_at_line, card_lines}
use Rattle.vx_command_cards.proofs.Lined.{lines_on, lines_up_to}
use Rattle.vx_command_cards.proofs.listing.list_cards.Goals as goal

pub loop-number-preserved : goal.loop-number-preserved
loop-number-preserved c = record {
  lines = lines_on (card_at_line c.args.election.now) c.loop-number.number _ _ _ _ _ _ c.loop-number.invariant.lines c.in_ok-push_card.ensures.lines;
  room = c.in_ok-push_card.ensures.room;
}

pub returns : goal.returns
unfolding card_lines
returns c =
    let all : c.loop-number.number ≡ length (cards_of c.args.election.now) = omega (arith, ap length c.in_ok-cards.ensures.exact) in
    lines_up_to (card_at_line c.args.election.now) c.loop-number.number (length (cards_of c.args.election.now)) _ _ _ _ all c.loop-number.invariant.lines
