use Rattle.std.proofs.Common.{◌≡◌, ◌+◌, ℕ, List, ◌∷◌, drop, false, Option, Ok, Err, refl, sym, ap, subst, ◌∙◌, arith}
use Rattle.std.proofs.lemmas.List.{drop_all, drop_more}
use Rattle.std.proofs.lemmas.Result.{err_from_is_err_and}
use Rattle.vx_plane.specs.Plane.{Page}
use Rattle.vx_io.specs.Outside.{Files}
use Rattle.vx_command.specs.Done.{IsDone, IsWritten}
use Rattle.vx_walk.specs.Steps.{WalksFirst}
use Rattle.vx_walk.specs.Walk.{scans_outcome}
use Rattle.vx_walk.specs.Walked.{waits}
use Rattle.vx_walk.proofs.scans.walk_scans.Goals as goal

pub returns-in_err-walked-clause-asked : goal.returns-in_err-walked-clause-asked
returns-in_err-walked-clause-asked g c =
    let err = err_from_is_err_and c.from_residual.result c.from_residual.ensures.1 in
    rw (err.1 ∙ ap Err err.2)
    (c.asks_in_order.ensures.one_breaks c.args.scans.now c.loop-scan.scan-index c.as_str-name.result.now _ c.args.inputs.now c.loop-scan.inputs c.walk_input.new.inputs false c.loop-scan-test.true (c.as_str-name.ensures ∙ c.scan-item.is)
    c.loop-scan.invariant.asked c.in_err-walked.ensures.asked)

pub returns-in_err-walked-clause-done : goal.returns-in_err-walked-clause-done
returns-in_err-walked-clause-done g c files told held =
    let err = err_from_is_err_and c.from_residual.result c.from_residual.ensures.1 in
    let cause = c.in_err-walked.field-0.0 in
    let names : List (List ℕ) = c.args.scans.now in
    let i : ℕ = c.loop-scan.scan-index in
    let here : drop i names ≡ c.as_str-name.result.now ∷ drop (i + 1) names = drop_more names i _ c.loop-scan-test.true ∙ ap (λ (next : List ℕ). next ∷ drop (i + 1) names) (sym (c.as_str-name.ensures ∙ c.scan-item.is)) in
    let By : g.row.W.Denot → Type 0 = λ work.
    WalksFirst (g.W.SheetWork.step work) (g.W.SheetWork.ending work) files c.loop-scan.word c.loop-scan.walked c.as_str-name.result.now (g.S.Sink.taken c.loop-scan.out) (g.S.Sink.taken c.walk_input.new.out) (Err cause) in
    let Done : List (List ℕ) → Type 0 = λ left.
    IsDone (scans_outcome (g.W.SheetWork.step c.args.work.now) (g.W.SheetWork.ending c.args.work.now) files c.loop-scan.word c.loop-scan.walked.sheets (waits c.loop-scan.walked.waiting) left)
    (g.S.Sink.taken c.loop-scan.out) (g.S.Sink.taken c.walk_input.new.out) held held (Err cause) in
    rw (err.1 ∙ ap Err err.2)
    (c.loop-scan.invariant.comes files told held (g.S.Sink.taken c.walk_input.new.out) held (Err cause)
    (subst Done (sym here) (subst By c.loop-scan.invariant.as_before (c.in_err-walked.ensures.done files (c.loop-scan.invariant.same ∙ told)) (drop (i + 1) names) held)))

pub loop-scan-preserved : goal.loop-scan-preserved
loop-scan-preserved g c =
    let names : List (List ℕ) = c.args.scans.now in
    let i : ℕ = c.loop-scan.scan-index in
    let By : Files → g.row.W.Denot → Type 0 = λ files work.
    WalksFirst (g.W.SheetWork.step work) (g.W.SheetWork.ending work) files c.loop-scan.word c.loop-scan.walked c.as_str-name.result.now (g.S.Sink.taken c.loop-scan.out) (g.S.Sink.taken c.walk_input.new.out) (Ok c.in_ok-walked.walked) in
    record {
      comes = λ files told held taken_then held_then answer done.
          let Done : List (List ℕ) → Type 0 = λ left.
          IsDone (scans_outcome (g.W.SheetWork.step c.args.work.now) (g.W.SheetWork.ending c.args.work.now) files c.loop-scan.word c.loop-scan.walked.sheets (waits c.loop-scan.walked.waiting) left)
          (g.S.Sink.taken c.loop-scan.out) taken_then held held_then answer in
          let here : drop i names ≡ c.as_str-name.result.now ∷ drop (i + 1) names = drop_more names i _ c.loop-scan-test.true ∙ ap (λ (next : List ℕ). next ∷ drop (i + 1) names) (sym (c.as_str-name.ensures ∙ c.scan-item.is)) in
          c.loop-scan.invariant.comes files told held taken_then held_then answer
          (subst Done (sym here) (subst (By files) c.loop-scan.invariant.as_before (c.in_ok-walked.ensures.done files (c.loop-scan.invariant.same ∙ told)) (drop (i + 1) names) held taken_then held_then answer done));
      may = subst g.W.SheetWork.may (sym c.in_ok-walked.ensures.same) c.loop-scan.invariant.may;
      as_before = c.in_ok-walked.ensures.same ∙ c.loop-scan.invariant.as_before;
      word = omega (arith, c.loop-scan.invariant.word);
      room = omega (arith, c.loop-scan.invariant.room, c.in_ok-walked.ensures.bound);
      same = c.in_ok-walked.ensures.devices.inputs.same ∙ c.loop-scan.invariant.same;
      no_read_fault = c.in_ok-walked.ensures.devices.inputs.counts.still (refl {a = false}) ∙ c.loop-scan.invariant.no_read_fault;
      no_write_fault = c.in_ok-walked.ensures.devices.sink.still (refl {a = false}) ∙ c.loop-scan.invariant.no_write_fault;
      asked =
          c.asks_in_order.ensures.one_more names i c.as_str-name.result.now _ c.args.inputs.now c.loop-scan.inputs c.walk_input.new.inputs c.loop-scan-test.true (c.as_str-name.ensures ∙ c.scan-item.is)
          c.loop-scan.invariant.asked c.in_ok-walked.ensures.asked;
    }

pub returns-clause-done : goal.returns-clause-done
returns-clause-done g c files told held =
    let names : List (List ℕ) = c.args.scans.now in
    let i : ℕ = c.loop-scan.scan-index in
    let Left : Option Page → Type 0 = λ left. IsWritten (g.W.SheetWork.ending c.loop-scan.work c.loop-scan.walked.sheets (waits left)) (g.S.Sink.taken c.loop-scan.out) (g.S.Sink.taken c.end.new.out) c.end.result in
    let By : g.row.W.Denot → Type 0 = λ work. IsWritten (g.W.SheetWork.ending work c.loop-scan.walked.sheets (waits c.loop-scan.walked.waiting)) (g.S.Sink.taken c.loop-scan.out) (g.S.Sink.taken c.end.new.out) c.end.result in
    let Done : List (List ℕ) → Type 0 = λ left.
    IsDone (scans_outcome (g.W.SheetWork.step c.args.work.now) (g.W.SheetWork.ending c.args.work.now) files c.loop-scan.word c.loop-scan.walked.sheets (waits c.loop-scan.walked.waiting) left)
    (g.S.Sink.taken c.loop-scan.out) (g.S.Sink.taken c.end.new.out) held held c.end.result in
    c.loop-scan.invariant.comes files told held (g.S.Sink.taken c.end.new.out) held c.end.result
    (subst Done (sym (drop_all i names c.loop-scan-test.false)) (subst By c.loop-scan.invariant.as_before (subst Left c.left-left.ensures c.end.ensures.done) held))
