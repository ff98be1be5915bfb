use Rattle.std.proofs.Common.{◌+◌, [], ◌∷◌, filter}
use Rattle.std.specs.List.{range_with_len}
use Rattle.vx_simulate.specs.Draws.{draw_all}
use Rattle.vx_simulate.specs.Marks.{draw_options, has_bubble}
use Rattle.vx_simulate.proofs.OneMore.{part-laid}
use Rattle.vx_simulate.proofs.Marking.{more-drawn}
use Rattle.vx_simulate.proofs.marks.draw_marks.Goals as goal

pub loop-number-preserved : goal.loop-number-preserved
loop-number-preserved c =
    let n = c.loop-number.number in
    let one = draw_options c.args.election.now in
    let test = has_bubble c.args.plan.now in
    let laid = part-laid (draw_all one (filter test (n ∷ []))) (draw_all one (filter test (range_with_len 0 n)) c.args.rng.now) (draw_all one (filter test (range_with_len 0 (n + 1))) c.args.rng.now) c.loop-number.drawn.items c.add_options.new.drawn.items c.loop-number.rng c.add_options.new.rng
    (more-drawn test one n c.args.rng.now) c.loop-number.invariant.drawn c.loop-number.invariant.next c.in_ok-add_options.ensures.drawn c.in_ok-add_options.ensures.next in
    record { drawn = laid.0; next = laid.1 }
