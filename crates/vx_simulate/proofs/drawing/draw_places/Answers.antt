use Rattle.std.proofs.Common.{◌≡◌, ℕ, ◌+◌, ap, ◌∙◌, arith}
use Rattle.vx_simulate.specs.Draws.{draw_place, draw_places}
use Rattle.vx_simulate.proofs.OneMore.{one-laid, places-next}
use Rattle.vx_simulate.proofs.drawing.draw_places.Goals as goal

pub loop-n-preserved : goal.loop-n-preserved
loop-n-preserved c =
    let n = c.loop-n.n in
    let laid = one-laid (draw_place c.args.width c.args.height) (draw_places n c.args.width c.args.height c.args.rng.now) (draw_places (n + 1) c.args.width c.args.height c.args.rng.now) c.loop-n.places.items c.push.new.self.items c.draw_place.result c.loop-n.rng c.draw_place.new.rng
    (places-next n c.args.width c.args.height c.args.rng.now) c.loop-n.invariant.places c.loop-n.invariant.next c.draw_place.ensures.place c.draw_place.ensures.next c.in_ok-push.ensures.items in
    record { places = laid.0; next = laid.1 }

pub returns-clause-places : goal.returns-clause-places
returns-clause-places c =
    let all : c.loop-n.n ≡ c.args.many = omega arith in
    c.loop-n.invariant.places ∙ ap (λ (n : ℕ). (draw_places n c.args.width c.args.height c.args.rng.now).0) all

pub returns-clause-next : goal.returns-clause-next
returns-clause-next c =
    let all : c.loop-n.n ≡ c.args.many = omega arith in
    c.loop-n.invariant.next ∙ ap (λ (n : ℕ). (draw_places n c.args.width c.args.height c.args.rng.now).1) all
