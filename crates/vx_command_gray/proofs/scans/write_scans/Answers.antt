use Rattle.std.proofs.Common.{◌≤◌, ℕ, true, List, drop, length, Option, Ok, refl, sym, subst, ◌∙◌}
use Rattle.std.proofs.lemmas.List.{drop_all}
use Rattle.vx_io.specs.Outside.{Files}
use Rattle.vx_gray.specs.declared.fault.PgmFault.{PgmFault}
use Rattle.vx_command.specs.Asking.{Asks}
use Rattle.vx_command_gray.specs.Done.{WritesFirst}
use Rattle.vx_command_gray.specs.Outcome.{gray_outcome}
use Rattle.vx_command_gray.proofs.Acts.{scan_written, scan_faulty, scan_broken}
use Rattle.vx_command_gray.proofs.Asked.{ends_ill, one_asked, last_asked}
use Rattle.vx_command_gray.proofs.scans.write_scans.Goals as goal

pub returns-in-Ok-Some-clause-done : goal.returns-in-Ok-Some-clause-done
returns-in-Ok-Some-clause-done g c files told =
    let Written : Option PgmFault → Type 0 = λ found. WritesFirst files c.loop-word.word c.word.result.now (g.S.Sink.taken c.loop-word.out)
    (g.S.Sink.taken c.write_input.new.out) (Ok found) in
    scan_faulty files c.args.words.now c.loop-word.word c.word.result.now (gray_outcome (drop 1 c.args.words.now) files) _ _ _ c.word.ensures
    (c.loop-word.invariant.comes files told)
    c.acts_in_order.ensures c.in-Ok-Some.fault (subst Written c.in-Ok-Some.field-0-is (c.in-Ok-Some.ensures.done files (c.loop-word.invariant.same ∙ told)))

pub returns-in-Ok-Some-clause-asked : goal.returns-in-Ok-Some-clause-asked
returns-in-Ok-Some-clause-asked g c =
    last_asked g.I.Inputs c.asks_in_order.ensures c.args.words.now (drop 1 c.args.words.now) c.loop-word.word c.word.result.now _ _ _ c.word.ensures
    c.loop-word.invariant.asked _ c.in-Ok-Some.ensures.asked

pub returns-in-Err-clause-done : goal.returns-in-Err-clause-done
returns-in-Err-clause-done g c files told =
    scan_broken files c.args.words.now c.loop-word.word c.word.result.now (gray_outcome (drop 1 c.args.words.now) files) _ _ _ c.word.ensures
    (c.loop-word.invariant.comes files told)
    c.in-Err.cause c.status_of_halt.result c.status_of_halt.ensures (c.in-Err.ensures.done files (c.loop-word.invariant.same ∙ told))

pub returns-in-Err-clause-asked : goal.returns-in-Err-clause-asked
returns-in-Err-clause-asked g c =
    rw (ends_ill c.status_of_halt.result c.in-Err.cause c.status_of_halt.ensures)
    (last_asked g.I.Inputs c.asks_in_order.ensures c.args.words.now (drop 1 c.args.words.now) c.loop-word.word c.word.result.now _ _ _ c.word.ensures
    c.loop-word.invariant.asked _ c.in-Err.ensures.asked)

pub returns-clause-asked : goal.returns-clause-asked
returns-clause-asked g c =
    let past : length c.args.words.now ≤ c.loop-word.word = subst (λ (count : ℕ). count ≤ c.loop-word.word) c.count-word-end.ensures c.loop-word-test.false in
    let Left : List (List ℕ) → Type 0 = λ names. Asks g.I.Inputs names c.loop-word.inputs c.loop-word.inputs true in
    c.loop-word.invariant.asked c.loop-word.inputs true
    (subst Left (sym (drop_all c.loop-word.word c.args.words.now past)) (c.asks_in_order.ensures.none c.loop-word.inputs true))

pub loop-word-preserved : goal.loop-word-preserved
loop-word-preserved g c =
    let Written : (files : Files) → Option PgmFault → Type 0 = λ files found. WritesFirst files c.loop-word.word c.word.result.now
    (g.S.Sink.taken c.loop-word.out) (g.S.Sink.taken c.write_input.new.out) (Ok found) in
    record {
      comes = λ files told.
          scan_written files c.args.words.now c.loop-word.word c.word.result.now (gray_outcome (drop 1 c.args.words.now) files) _ _ _ c.word.ensures
          (c.loop-word.invariant.comes files told)
          (subst (Written files) c.in-Ok-None.field-0-is (c.in-Ok-None.ensures.done files (c.loop-word.invariant.same ∙ told)));
      asked = one_asked g.I.Inputs c.asks_in_order.ensures c.args.words.now (drop 1 c.args.words.now) c.loop-word.word c.word.result.now _ _ _ c.word.ensures
          c.loop-word.invariant.asked c.in-Ok-None.ensures.asked;
      same = c.in-Ok-None.ensures.devices.inputs.same ∙ c.loop-word.invariant.same;
      no_read_fault = c.in-Ok-None.ensures.devices.inputs.counts.still refl ∙ c.loop-word.invariant.no_read_fault;
      no_write_fault = c.in-Ok-None.ensures.devices.sink.still refl ∙ c.loop-word.invariant.no_write_fault;
    }
