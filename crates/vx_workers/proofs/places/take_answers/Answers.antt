use Rattle.std.proofs.Common.{subst, sym, arith}
use Rattle.std.specs.Prelude.{IfSome}
use Rattle.vx_workers.specs.Answers.{IsAnswerOf}
use Rattle.vx_workers.proofs.Answering.{as_many, emptied, of_kept, with_next}
use Rattle.vx_workers.proofs.places.take_answers.Goals as goal

pub index_mut-requires : goal.index_mut-requires
index_mut-requires g c =
    let many = as_many g.F.Fn c.args.task.now c.args.items.now c.loop-place.places.items c.loop-place.invariant.places in
    omega (arith, many, c.loop-place-test.true)

pub answer_from-requires-clause-kept : goal.answer_from-requires-clause-kept
answer_from-requires-clause-kept g c =
    λ κs outlives.
    subst (λ kept. IfSome kept (IsAnswerOf g.F.Fn c.args.task.now c.args.items.now c.loop-place.place)) (sym c.take-kept.ensures.value)
    (of_kept g.F.Fn c.args.task.now c.args.items.now c.loop-place.places.items c.loop-place.place c.index_mut.result.now c.loop-place.invariant.places c.loop-place-test.true c.index_mut.ensures.value)

pub loop-place-preserved : goal.loop-place-preserved
loop-place-preserved g c = record {
  places = emptied g.F.Fn c.args.task.now c.args.items.now c.loop-place.places.items c.loop-place.place c.take-kept.new.self c.loop-place.invariant.places c.take-kept.ensures.after;
  answers =
      with_next g.F.Fn c.args.task.now c.args.items.now c.loop-place.answers.items c.push.new.self.items c.loop-place.place c.in_ok-answer_from.field-0
      c.loop-place.invariant.answers c.in_ok-answer_from.ensures c.in_ok-push.ensures.items;
}
