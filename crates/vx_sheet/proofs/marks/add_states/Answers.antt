use Rattle.std.proofs.lemmas.Option.{slice_get-get_or}
use Rattle.vx_sheet.proofs.Counted.{lent, states-laid}
use Rattle.vx_sheet.proofs.marks.add_states.Goals as goal

pub loop-place-preserved : goal.loop-place-preserved
loop-place-preserved c =
    let bubbles = c.args.bubbles.now in
    let states = c.args.states.now in
    let place = c.loop-place.place in
    states-laid c.args.contest bubbles states place _ _ c.loop-place.list.items _ _
    c.in_ok-add_state.ensures (slice_get-get_or bubbles place _ c.loop-place-test.true)
    (lent c.get.result states place c.get.ensures.lookup) c.loop-place.invariant
