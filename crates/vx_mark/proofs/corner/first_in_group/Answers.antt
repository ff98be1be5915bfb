use Rattle.std.proofs.Common.{ℕ, ◌≤◌, arith, below_more}
use Rattle.vx_mark_model.specs.Mark.{IsAccepted}
use Rattle.vx_mark.specs.Search.{place_in, HasFootprint}
use Rattle.vx_mark.proofs.Places.{accepted-below, refused-at}
use Rattle.vx_mark.proofs.corner.first_in_group.Goals as goal

pub returns-then-deficit_up_to-le-MOST : goal.returns-then-deficit_up_to-le-MOST
returns-then-deficit_up_to-le-MOST c =
    let here : HasFootprint c.args.counter.now c.loop-u.u c.args.v = record { left = omega arith; right = omega (arith, c.requires.columns.right (omega arith)); top = omega arith; bottom = omega arith } in
    record {
      from = omega arith;
      before = omega arith;
      accepted = accepted-below c.args.counter.now c.loop-u.u c.args.v 21 c.deficit_up_to.result here c.deficit_up_to.ensures (omega arith) (omega arith);
      first = c.loop-u.invariant;
    }

pub loop-u-preserved : goal.loop-u-preserved
loop-u-preserved c =
    let P : ℕ → Type 0 = λ w. c.args.columns.first ≤ w → IsAccepted c.args.counter.now (place_in w c.args.v) → ⊥ in
    λ w from before. below_more P c.loop-u.u (λ k less start. c.loop-u.invariant k start less) (λ start. refused-at c.args.counter.now c.loop-u.u c.args.v c.deficit_up_to.result c.deficit_up_to.ensures c.if-deficit_up_to-le-MOST.false) w before from
