use Rattle.std.proofs.Common.{◌≡◌, ◌<◌, max, length, sym, ◌∙◌, arith}
use Rattle.vx_command_cards.specs.Drawn.{is_same_cell}
use Rattle.vx_command_cards.proofs.Looking.{all-more, all-same, not-same}
use Rattle.vx_command_cards.proofs.drawn.are_same_cells.Goals as goal

pub returns-then-not-is_same_cell : goal.returns-then-not-is_same_cell
returns-then-not-is_same_cell c =
    let within : c.loop-place.place < max (length c.args.first.now) (length c.args.second.now) = omega arith in
    sym (not-same c.args.first.now c.args.second.now c.loop-place.place within (sym c.is_same_cell.ensures ∙ c.if-not-is_same_cell.true))

pub loop-place-preserved : goal.loop-place-preserved
loop-place-preserved c =
    all-more (is_same_cell c.args.first.now c.args.second.now) c.loop-place.place c.loop-place.invariant (sym c.is_same_cell.ensures ∙ c.if-not-is_same_cell.false)

pub returns : goal.returns
returns c =
    let all : c.loop-place.place ≡ max (length c.args.first.now) (length c.args.second.now) = omega arith in
    sym (all-same c.args.first.now c.args.second.now c.loop-place.place all c.loop-place.invariant)
