use Rattle.std.proofs.Common.{◌≡◌, ◌∷◌, [], List, length, true, false, ap, subst, sym, ◌∙◌, arith}
use Rattle.std.specs.Prelude.{is_err}
use Rattle.vx_events.specs.declared.event.Event.{Event}
use Rattle.vx_shared.specs.Gained.{HasMadeFront, MakesAlso}
use Rattle.vx_shared.proofs.Gaining.{also_all, also_front, also_next, err_there, made_of, ok_there}
use Rattle.vx_shared.proofs.making.make_all.Goals as goal

pub returns-in_default-clause-front : goal.returns-in_default-clause-front
returns-in_default-clause-front g c = also_front c.args.pass c.loop-event.now c.args.events.now c.loop-event.event-index c.loop-event.invariant.also

pub returns-then-is_err-clause-front : goal.returns-then-is_err-clause-front
returns-then-is_err-clause-front g c =
    let err : is_err c.make-after.result.1 ≡ true = cc (c.is_err.ensures.value, c.if-is_err.true) in
    let same : c.make-after.result.0 ≡ c.loop-event.now = err_there c.make-after.result.1 _ err c.make-after.ensures.refused in
    subst (λ k. HasMadeFront c.args.pass c.args.events.now k) (sym same)
    (also_front c.args.pass c.loop-event.now c.args.events.now c.loop-event.event-index c.loop-event.invariant.also)

pub loop-event-preserved : goal.loop-event-preserved
loop-event-preserved g c =
    let ok : is_err c.make-after.result.1 ≡ false = cc (c.is_err.ensures.value, c.if-is_err.false) in
    let copied : MakesAlso c.loop-event.now (c.in-Ok.copy ∷ []) c.make-after.result.0 = ok_there c.make-after.result.1 _ ok c.make-after.ensures.made in
    let event : Event = c.event-item.result in
    let also : MakesAlso c.loop-event.now (event ∷ []) c.make-after.result.0 = subst (λ (e : Event). MakesAlso c.loop-event.now (e ∷ []) c.make-after.result.0) c.in-Ok.ensures copied in
    let made = made_of c.loop-event.now c.make-after.result.0 (event ∷ []) also in
    let one = ap (λ (l : List Event). length l) made.made in
    record {
      also = also_next c.args.pass c.loop-event.now c.make-after.result.0 c.args.events.now c.loop-event.event-index event c.loop-event-test.true c.event-item.is c.loop-event.invariant.also also;
      belongs = made.gained.of ∙ c.loop-event.invariant.belongs;
      origin = made.gained.origin ∙ c.loop-event.invariant.origin;
      calls = omega (arith, made.gained.calls, one, c.loop-event.invariant.calls);
    }

pub returns-clause-made : goal.returns-clause-made
returns-clause-made g c = also_all c.args.pass c.loop-event.now c.args.events.now c.loop-event.event-index c.loop-event-test.false c.loop-event.invariant.also
