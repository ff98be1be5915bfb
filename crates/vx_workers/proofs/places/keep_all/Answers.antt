use Rattle.std.proofs.Common.{arith}
use Rattle.std.specs.Prelude.{Some}
use Rattle.std.proofs.lemmas.List.Elements.{All-pop}
use Rattle.vx_workers.specs.Answers.{IsAnswerAt}
use Rattle.vx_workers.proofs.Answering.{has_place, with_answer}
use Rattle.vx_workers.proofs.places.keep_all.Goals as goal

pub keep-requires : goal.keep-requires
keep-requires g c =
    let popped = All-pop (IsAnswerAt g.F.Fn c.args._task.now c.args._items.now) c.loop-done.share.items c.pop.new.self.items (Some c.in-Some.done) c.in-Some.ensures.items c.loop-done.invariant.share in
    let within = has_place g.F.Fn c.args._task.now c.args._items.now c.loop-done.places.items c.in-Some.done c.loop-done.invariant.places popped.1 in
    omega (arith, within)

pub loop-done-preserved : goal.loop-done-preserved
loop-done-preserved g c =
    let popped = All-pop (IsAnswerAt g.F.Fn c.args._task.now c.args._items.now) c.loop-done.share.items c.pop.new.self.items (Some c.in-Some.done) c.in-Some.ensures.items c.loop-done.invariant.share in
    record {
      places = with_answer g.F.Fn c.args._task.now c.args._items.now c.loop-done.places.items c.keep.new.places.items c.in-Some.done c.loop-done.invariant.places popped.1 c.keep.ensures;
      share = popped.0;
    }
