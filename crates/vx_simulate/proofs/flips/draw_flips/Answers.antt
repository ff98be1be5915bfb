use Rattle.std.proofs.Common.{◌∙◌}
use Rattle.vx_simulate.proofs.Laying.{not-done, flips-laid}
use Rattle.vx_simulate.proofs.flips.draw_flips.Goals as goal

pub returns-in_err-at_bubbles-clause-next : goal.returns-in_err-at_bubbles-clause-next
returns-in_err-at_bubbles-clause-next c = not-done _ c.from_residual.result c.from_residual.ensures.0

pub returns-in_err-at_boxes-clause-next : goal.returns-in_err-at_boxes-clause-next
returns-in_err-at_boxes-clause-next c = not-done _ c.from_residual-in_err-at_boxes.result c.from_residual-in_err-at_boxes.ensures.0

pub returns-in_err-in_tiles-clause-next : goal.returns-in_err-in_tiles-clause-next
returns-in_err-in_tiles-clause-next c = not-done _ c.from_residual-in_err-in_tiles.result c.from_residual-in_err-in_tiles.ensures.0

pub returns : goal.returns
returns c =
    let laid = flips-laid c.args.plan.now c.args.rng.now c.draw_at_bubbles.new.rng c.draw_at_boxes.new.rng c.draw_in_tiles.new.rng
    (record { at_bubbles = c.from_vec.result; at_boxes = c.from_vec-2.result; in_tiles = c.from_vec-3.result })
    (c.from_vec.ensures ∙ c.in_ok-at_bubbles.ensures.lists) c.in_ok-at_bubbles.ensures.next
    (c.from_vec-2.ensures ∙ c.in_ok-at_boxes.ensures.lists) c.in_ok-at_boxes.ensures.next
    (c.from_vec-3.ensures ∙ c.in_ok-in_tiles.ensures.lists) c.in_ok-in_tiles.ensures.next in
    record { flips = laid.0; next = laid.1 }
