use Rattle.std.proofs.Common.{◌<◌, length, arith, sym, ◌∙◌}
use Rattle.std.proofs.Math.ListN.{length-set}
use Rattle.std.proofs.lemmas.List.{take_more_set}
use Rattle.vx_grid.specs.Marks.{marks}
use Rattle.vx_readings.proofs.FilledPlaces.{filled-short, filled-long, filled-bad, filled-all, filled-more}
use Rattle.vx_readings.proofs.border.places_in.Goals as goal

pub returns-in_err-word : goal.returns-in_err-word
returns-in_err-word c =
    let less : c.loop-k.k < marks c.args.paper = omega (arith, c.loop-k-test.true, c.marks-k-end.ensures.exact) in
    rw c.from_residual.ensures (filled-short c.args.paper c.args.words c.loop-k.rest c.loop-k.places c.loop-k.k c.loop-k.invariant.filled c.in_err-word.ensures less)

pub returns-in_err-places : goal.returns-in_err-places
returns-in_err-places c =
    rw c.from_residual-in_err-places.ensures
    (filled-bad c.args.paper c.args.words c.loop-k.rest c.loop-k.places c.loop-k.k c.loop-k.invariant.filled c.in_ok-word.word.now c.in_ok-word.more c.in_ok-word.ensures
    (sym c.place_in.ensures ∙ c.in_err-places.was))

pub loop-k-preserved : goal.loop-k-preserved
loop-k-preserved c =
    let small : c.loop-k.k < length c.loop-k.places = omega (arith, c.loop-k.invariant.room, c.loop-k-test.true, c.marks-k-end.ensures.bound) in
    record {
      filled =
          filled-more c.args.paper c.args.words c.loop-k.rest c.loop-k.places c.loop-k.k c.loop-k.invariant.filled c.in_ok-word.word.now c.in_ok-word.more c.in_ok-places.field-0 _
          c.in_ok-word.ensures (sym c.place_in.ensures ∙ c.in_ok-places.was)
          (take_more_set c.loop-k.places c.loop-k.k c.in_ok-places.field-0 small);
      room = simp length-set c.loop-k.invariant.room;
    }

pub returns-in-None : goal.returns-in-None
returns-in-None c =
    filled-all c.args.paper c.args.words c.loop-k.rest c.loop-k.places c.loop-k.k c.loop-k.invariant.filled c.in-None.ensures
    (omega (arith, c.loop-k-test.false, c.loop-k.auto.k-end, c.marks-k-end.ensures.exact))

pub returns-in-Some : goal.returns-in-Some
returns-in-Some c =
    filled-long c.args.paper c.args.words c.loop-k.rest c.loop-k.places c.loop-k.k c.loop-k.invariant.filled c.in-Some.field-0.0.now c.in-Some.field-0.1 c.in-Some.ensures
    (omega (arith, c.loop-k-test.false, c.marks-k-end.ensures.exact))
