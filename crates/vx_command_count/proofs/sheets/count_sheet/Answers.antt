use Rattle.std.proofs.Common.{◌++◌, ◌∷◌, [], ℕ, Ok, Err, sym, ap, subst, ◌∙◌}
use Rattle.std.proofs.lemmas.Result.{err_from_is_err_and}
use Rattle.vx_sheet.specs.declared.came.Came.{Came}
use Rattle.vx_sheet.specs.Lines.{lines_of}
use Rattle.vx_sheet.specs.Shows.{IsReadAll}
use Rattle.vx_command.specs.Acts.{Write, work, writing}
use Rattle.vx_command.specs.Devices.{is_write_fault}
use Rattle.vx_command.specs.Done.{IsDone, IsWritten}
use Rattle.vx_command_count.specs.Sheets.{came_if, keep_if}
use Rattle.vx_command_count.proofs.SheetActs.{kept-then, late-of, none-kept, still-counts}
use Rattle.vx_command_count.proofs.Told.{told-if}
use Rattle.vx_command_count.proofs.sheets.count_sheet.Goals as goal

pub tell-requires : goal.tell-requires
tell-requires g c =
    let election = c.args.setting.now.election.now in
    let Told : Came → Type 0 = λ came. IsReadAll election came in
    subst Told (sym c.in_ok-came.ensures.came) (told-if election c.args.counting.now.journal c.args.made c.requires.fits c.requires.told)

pub returns-in_err-came-clause-done : goal.returns-in_err-came-clause-done
returns-in_err-came-clause-done g c =
    let err = err_from_is_err_and c.from_residual.result c.from_residual.ensures.1 in
    let cause = c.in_err-came.field-0.0 in
    let batch = c.args.setting.now.batch.now in
    let journal = c.args.counting.now.journal in
    let made = c.args.made in
    let Whole : ℕ → Type 0 = λ n.
    IsDone (work (keep_if journal made ++ Write (lines_of c.args.setting.now.election.now batch n (came_if journal made)) ∷ []))
    (g.S.Sink.taken c.args.out.now) (g.S.Sink.taken c.args.out.now) (g.K.Keeper.held c.args.keeper.now) (g.K.Keeper.held c.settle.new.keeper) (Err cause) in
    let n = c.next_number-number.result in
    rw (err.1 ∙ ap Err err.2)
    (subst Whole c.next_number-number.ensures
    (none-kept c.acts_in_order.ensures (keep_if journal made) (lines_of c.args.setting.now.election.now batch n (came_if journal made))
    cause (g.S.Sink.taken c.args.out.now) (g.K.Keeper.held c.args.keeper.now) (g.K.Keeper.held c.settle.new.keeper) c.in_err-came.ensures.done))

pub returns-in_err-came-clause-devices : goal.returns-in_err-came-clause-devices
returns-in_err-came-clause-devices g c =
    let err = err_from_is_err_and c.from_residual.result c.from_residual.ensures.1 in
    let cause = c.in_err-came.field-0.0 in
    let touches = c.in_err-came.ensures.keeper in
    rw (err.1 ∙ ap Err err.2)
    (record {
      sink = still-counts (is_write_fault {A = Unit {0}} (Err cause)) (g.S.Sink.faults c.args.out.now) touches.no_write_fault;
      keeper = touches.keeper;
      no_read_fault = touches.no_read_fault;
    })

pub returns-in_err-came-clause-late : goal.returns-in_err-came-clause-late
returns-in_err-came-clause-late g c =
    let err = err_from_is_err_and c.from_residual.result c.from_residual.ensures.1 in
    let cause = c.in_err-came.field-0.0 in
    rw (err.1 ∙ ap Err err.2)
    (late-of (keep_if c.args.counting.now.journal c.args.made) (g.S.Sink.taken c.args.out.now) (g.S.Sink.taken c.args.out.now)
    (g.K.Keeper.held c.args.keeper.now) (g.K.Keeper.held c.settle.new.keeper) cause (c.in_err-came.ensures.done (g.S.Sink.taken c.args.out.now)))

pub returns-in-Err-clause-done : goal.returns-in-Err-clause-done
returns-in-Err-clause-done g c =
    let cause = c.in-Err.halt in
    let election = c.args.setting.now.election.now in
    let batch = c.args.setting.now.batch.now in
    let journal = c.args.counting.now.journal in
    let made = c.args.made in
    let Whole : ℕ → Type 0 = λ n.
    IsDone (work (keep_if journal made ++ Write (lines_of election batch n (came_if journal made)) ∷ []))
    (g.S.Sink.taken c.args.out.now) (g.S.Sink.taken c.tell.new.out) (g.K.Keeper.held c.args.keeper.now) (g.K.Keeper.held c.settle.new.keeper) (Err cause) in
    let n = c.next_number-number.result in
    let Written : Came → Type 0 = λ came. IsWritten (writing (lines_of election batch n came)) (g.S.Sink.taken c.args.out.now) (g.S.Sink.taken c.tell.new.out) (Err cause) in
    (subst Whole c.next_number-number.ensures
    (kept-then c.acts_in_order.ensures (keep_if journal made) (lines_of election batch n (came_if journal made))
    (g.S.Sink.taken c.args.out.now) (g.S.Sink.taken c.tell.new.out) (g.K.Keeper.held c.args.keeper.now) (g.K.Keeper.held c.settle.new.keeper) (Err cause)
    c.in_ok-came.ensures.done (subst Written c.in_ok-came.ensures.came c.in-Err.ensures.done)))

pub returns-in-Ok-clause-done : goal.returns-in-Ok-clause-done
returns-in-Ok-clause-done g c =
    let election = c.args.setting.now.election.now in
    let batch = c.args.setting.now.batch.now in
    let journal = c.args.counting.now.journal in
    let made = c.args.made in
    let Whole : ℕ → Type 0 = λ n.
    IsDone (work (keep_if journal made ++ Write (lines_of election batch n (came_if journal made)) ∷ []))
    (g.S.Sink.taken c.args.out.now) (g.S.Sink.taken c.tell.new.out) (g.K.Keeper.held c.args.keeper.now) (g.K.Keeper.held c.settle.new.keeper) (Ok tt) in
    let n = c.next_number-number.result in
    let Written : Came → Type 0 = λ came. IsWritten (writing (lines_of election batch n came)) (g.S.Sink.taken c.args.out.now) (g.S.Sink.taken c.tell.new.out) (Ok tt) in
    subst Whole c.next_number-number.ensures
    (kept-then c.acts_in_order.ensures (keep_if journal made) (lines_of election batch n (came_if journal made))
    (g.S.Sink.taken c.args.out.now) (g.S.Sink.taken c.tell.new.out) (g.K.Keeper.held c.args.keeper.now) (g.K.Keeper.held c.settle.new.keeper) (Ok tt)
    c.in_ok-came.ensures.done (subst Written c.in_ok-came.ensures.came c.in-Ok.ensures.done))
