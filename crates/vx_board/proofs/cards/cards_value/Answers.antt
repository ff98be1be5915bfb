use Rattle.std.proofs.Common.{◌≡◌, ◌∷◌, ◌++◌, [], rules}
use Rattle.vx_board.specs.Contests.{card_data}
use Rattle.vx_board.proofs.Made.{one_numbered}
use Rattle.vx_board.proofs.cards.cards_value.Goals as goal

pub loop-number-preserved : goal.loop-number-preserved
loop-number-preserved c =
    let pushed : c.push.new.self.items ≡ c.loop-number.made.items ++ c.in_ok-card_value.field-0 ∷ [] = search rules in
    rw pushed
    (one_numbered (card_data c.args.election.now) c.loop-number.made.items c.loop-number.number c.in_ok-card_value.field-0 c.in_ok-card_value.ensures c.loop-number.invariant)
