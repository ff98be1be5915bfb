use Rattle.std.proofs.Common.{ℕ, ◌+◌, List, ◌∙◌}
use Rattle.std.specs.List.{range_with_len}
use Rattle.rand_pcg.specs.Lcg.{Lcg}
use Rattle.vx_simulate.specs.Draws.{draw_all, draw_places}
use Rattle.vx_simulate.proofs.OneMore.{one-laid, range-drawn}
use Rattle.vx_simulate.proofs.flips.draw_lists.Goals as goal

pub loop-n-preserved : goal.loop-n-preserved
loop-n-preserved c =
    let n = c.loop-n.n in
    let one : ℕ → Lcg → List (ℕ × ℕ) × Lcg = λ m. draw_places c.args.many c.args.width c.args.height in
    let laid = one-laid (draw_places c.args.many c.args.width c.args.height) (draw_all one (range_with_len 0 n) c.args.rng.now) (draw_all one (range_with_len 0 (n + 1)) c.args.rng.now) c.loop-n.drawn.items c.push.new.self.items c.from_vec.result c.loop-n.rng c.draw_places.new.rng
    (range-drawn one n c.args.rng.now) c.loop-n.invariant.lists c.loop-n.invariant.next (c.from_vec.ensures ∙ c.in_ok-places.ensures.places) c.in_ok-places.ensures.next c.in_ok-push.ensures.items in
    record { lists = laid.0; next = laid.1 }
