use Rattle.std.proofs.Common.{◌≤◌, ◌∙◌, length, List, ap, arith}
use Rattle.vx_events.specs.declared.event.Event.{Event}
use Rattle.vx_command_queue.proofs.Walked.{all_walked}
use Rattle.vx_command_queue.proofs.walk.waiting_lines.Goals as goal

pub returns : goal.returns
returns c =
    let past : length c.args.center.now.events ≤ c.loop-index.index = omega (arith, c.loop-index-test.false, ap (λ (some : List Event). length some) (c.as_slice-event-items.ensures ∙ c.events.ensures.value)) in
    all_walked _ _ _ _ _ _ _ c.loop-index.invariant.up_to past
