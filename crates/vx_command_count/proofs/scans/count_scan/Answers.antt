use Rattle.std.proofs.Common.{◌++◌, List, length, Err, refl, ap, subst, ◌∙◌, arith}
use Rattle.std.proofs.lemmas.Result.{err_from_is_err_and}
use Rattle.vx_plane.specs.Plane.{Page}
use Rattle.vx_pbm.specs.Images.{Unread, images_left}
use Rattle.vx_command.specs.Acts.{Outcome}
use Rattle.vx_command.specs.Done.{ComesTo}
use Rattle.vx_command_count.specs.declared.counting.Counting.{Counting}
use Rattle.vx_command_count.specs.declared.gathering.Ended.{Ended}
use Rattle.vx_command_count.specs.Gathering.{IsFilled, LeavesPiece, left_by, waits}
use Rattle.vx_command_count.specs.Outcome.{with_images}
use Rattle.vx_command_count.proofs.ScanActs.{no-memory, none-yet, piece-ends, piece-faults, piece-halts, piece-more, last-whole}
use Rattle.vx_command_count.proofs.scans.count_scan.Goals as goal

pub pieces-init : goal.pieces-init
pieces-init g c = record {
  up_to = none-yet c.args.setting.now.election.now c.args.setting.now.batch.now c.args.word c.args.counting.now c.args.waiting.now c.args.bytes.now c.images_are_whole.ensures
      c.in_ok-first.first c.new-reader.result (g.S.Sink.taken c.args.out.now) (g.K.Keeper.held c.args.keeper.now) c.in_ok-first.ensures.found c.in_ok-first.ensures.whole c.new-reader.ensures;
  election = c.requires.election;
  room = omega (arith, ap length c.in_ok-first.ensures.found, ap (λ (unread : Unread). length unread.text) c.new-reader.ensures);
  no_write_fault = refl;
  no_keeper_fault = refl;
}

pub returns-in_err-piece-clause-counts : goal.returns-in_err-piece-clause-counts
returns-in_err-piece-clause-counts g c =
    let err = err_from_is_err_and c.from_residual-in_err-piece.result c.from_residual-in_err-piece.ensures.1 in
    rw (err.1 ∙ ap Err err.2)
    (λ next. piece-halts c.args.setting.now.election.now c.args.setting.now.batch.now c.args.word c.args.counting.now c.args.waiting.now c.args.bytes.now c.acts_in_order.ensures (g.S.Sink.taken c.args.out.now) (g.S.Sink.taken c.pieces.out) (g.S.Sink.taken c.count_piece.new.out) (g.K.Keeper.held c.args.keeper.now) (g.K.Keeper.held c.pieces.keeper) (g.K.Keeper.held c.count_piece.new.keeper) c.pieces.counting c.pieces.first c.pieces.reader c.pieces.invariant.up_to c.in_err-piece.field-0.0 c.in_err-piece.ensures.counts next)

pub pieces-preserved : goal.pieces-preserved
pieces-preserved g c =
    let Counts : Ended → Type 0 = λ ended. (rest : Counting → List Page → Outcome) → ComesTo (with_images c.args.setting.now.election.now c.args.setting.now.batch.now c.pieces.counting (waits c.pieces.first ++ (images_left c.pieces.reader).pages) rest) (with_images c.args.setting.now.election.now c.args.setting.now.batch.now c.count_piece.new.counting (waits c.in_ok-piece.piece.last ++ (left_by ended c.count_piece.new.reader).pages) rest) (g.S.Sink.taken c.pieces.out) (g.S.Sink.taken c.count_piece.new.out) (g.K.Keeper.held c.pieces.keeper) (g.K.Keeper.held c.count_piece.new.keeper) in
    let Leaves : Ended → Type 0 = λ ended. LeavesPiece c.pieces.first c.pieces.reader c.in_ok-piece.piece.last c.count_piece.new.reader ended in
    let Goes : Ended → Type 0 = λ ended. IsFilled 0 (waits c.in_ok-piece.piece.last) c.pieces.reader c.count_piece.new.reader ended in
    let goes = subst Goes c.in-NotYet.is c.in_ok-piece.ensures.leaves.goes_on in
    (record {
      up_to = piece-more c.args.setting.now.election.now c.args.setting.now.batch.now c.args.word c.args.counting.now c.args.waiting.now c.args.bytes.now c.acts_in_order.ensures (g.S.Sink.taken c.args.out.now) (g.S.Sink.taken c.pieces.out) (g.S.Sink.taken c.count_piece.new.out) (g.K.Keeper.held c.args.keeper.now) (g.K.Keeper.held c.pieces.keeper) (g.K.Keeper.held c.count_piece.new.keeper) c.pieces.counting c.pieces.first c.pieces.reader c.pieces.invariant.up_to c.count_piece.new.counting c.in_ok-piece.piece.last c.count_piece.new.reader
          (subst Counts c.in-NotYet.is c.in_ok-piece.ensures.counts) (subst Leaves c.in-NotYet.is c.in_ok-piece.ensures.leaves);
      election = c.in_ok-piece.ensures.election;
      room = omega (arith, c.in_ok-piece.ensures.room, c.pieces.invariant.room);
      no_write_fault = c.in_ok-piece.ensures.devices.sink.still refl ∙ c.pieces.invariant.no_write_fault;
      no_keeper_fault = c.in_ok-piece.ensures.devices.keeper.still refl ∙ c.pieces.invariant.no_keeper_fault;
    })

pub of-requires : goal.of-requires
of-requires g c =
    let Leaves : Ended → Type 0 = λ ended. LeavesPiece c.pieces.first c.pieces.reader c.in_ok-piece.piece.last c.count_piece.new.reader ended in
    last-whole c.args.setting.now.election.now c.args.setting.now.batch.now c.args.word c.args.counting.now c.args.waiting.now c.args.bytes.now c.acts_in_order.ensures (g.S.Sink.taken c.args.out.now) (g.S.Sink.taken c.pieces.out) (g.S.Sink.taken c.count_piece.new.out) (g.K.Keeper.held c.args.keeper.now) (g.K.Keeper.held c.pieces.keeper) (g.K.Keeper.held c.count_piece.new.keeper) c.pieces.counting c.pieces.first c.pieces.reader c.pieces.invariant.up_to c.in_ok-piece.piece.last c.count_piece.new.reader (subst Leaves c.in-AtEnd.is c.in_ok-piece.ensures.leaves)

pub returns-in_err-of-in-AtEnd-clause-counts : goal.returns-in_err-of-in-AtEnd-clause-counts
returns-in_err-of-in-AtEnd-clause-counts g c =
    let err = err_from_is_err_and c.from_residual-in_err-of-in-AtEnd.result c.from_residual-in_err-of-in-AtEnd.ensures.1 in
    rw (err.1 ∙ ap Err err.2)
    (λ next. no-memory c.args.setting.now.election.now c.args.setting.now.batch.now c.args.word c.args.counting.now c.args.waiting.now c.args.bytes.now c.acts_in_order.ensures (g.S.Sink.taken c.args.out.now) (g.S.Sink.taken c.pieces.out) (g.S.Sink.taken c.count_piece.new.out) (g.K.Keeper.held c.args.keeper.now) (g.K.Keeper.held c.pieces.keeper) (g.K.Keeper.held c.count_piece.new.keeper) c.pieces.counting c.pieces.first c.pieces.reader c.pieces.invariant.up_to c.count_piece.new.counting (waits c.in_ok-piece.piece.last ++ (left_by c.in_ok-piece.piece.ended c.count_piece.new.reader).pages) c.in_ok-piece.ensures.counts next)

pub returns-in-AtEnd-clause-counts : goal.returns-in-AtEnd-clause-counts
returns-in-AtEnd-clause-counts g c next =
    let Counts : Ended → Type 0 = λ ended. (rest : Counting → List Page → Outcome) → ComesTo (with_images c.args.setting.now.election.now c.args.setting.now.batch.now c.pieces.counting (waits c.pieces.first ++ (images_left c.pieces.reader).pages) rest) (with_images c.args.setting.now.election.now c.args.setting.now.batch.now c.count_piece.new.counting (waits c.in_ok-piece.piece.last ++ (left_by ended c.count_piece.new.reader).pages) rest) (g.S.Sink.taken c.pieces.out) (g.S.Sink.taken c.count_piece.new.out) (g.K.Keeper.held c.pieces.keeper) (g.K.Keeper.held c.count_piece.new.keeper) in
    let Leaves : Ended → Type 0 = λ ended. LeavesPiece c.pieces.first c.pieces.reader c.in_ok-piece.piece.last c.count_piece.new.reader ended in
    piece-ends c.args.setting.now.election.now c.args.setting.now.batch.now c.args.word c.args.counting.now c.args.waiting.now c.args.bytes.now c.acts_in_order.ensures (g.S.Sink.taken c.args.out.now) (g.S.Sink.taken c.pieces.out) (g.S.Sink.taken c.count_piece.new.out) (g.K.Keeper.held c.args.keeper.now) (g.K.Keeper.held c.pieces.keeper) (g.K.Keeper.held c.count_piece.new.keeper) c.pieces.counting c.pieces.first c.pieces.reader c.pieces.invariant.up_to c.count_piece.new.counting c.in_ok-piece.piece.last c.count_piece.new.reader c.in_ok-of-in-AtEnd.field-0
    (subst Counts c.in-AtEnd.is c.in_ok-piece.ensures.counts) (subst Leaves c.in-AtEnd.is c.in_ok-piece.ensures.leaves) c.in_ok-of-in-AtEnd.ensures next

pub returns-in-AtFault-clause-counts : goal.returns-in-AtFault-clause-counts
returns-in-AtFault-clause-counts g c next =
    let Counts : Ended → Type 0 = λ ended. (rest : Counting → List Page → Outcome) → ComesTo (with_images c.args.setting.now.election.now c.args.setting.now.batch.now c.pieces.counting (waits c.pieces.first ++ (images_left c.pieces.reader).pages) rest) (with_images c.args.setting.now.election.now c.args.setting.now.batch.now c.count_piece.new.counting (waits c.in_ok-piece.piece.last ++ (left_by ended c.count_piece.new.reader).pages) rest) (g.S.Sink.taken c.pieces.out) (g.S.Sink.taken c.count_piece.new.out) (g.K.Keeper.held c.pieces.keeper) (g.K.Keeper.held c.count_piece.new.keeper) in
    let Leaves : Ended → Type 0 = λ ended. LeavesPiece c.pieces.first c.pieces.reader c.in_ok-piece.piece.last c.count_piece.new.reader ended in
    rw c.halt_of_bitmap.ensures
    (piece-faults c.args.setting.now.election.now c.args.setting.now.batch.now c.args.word c.args.counting.now c.args.waiting.now c.args.bytes.now c.acts_in_order.ensures (g.S.Sink.taken c.args.out.now) (g.S.Sink.taken c.pieces.out) (g.S.Sink.taken c.count_piece.new.out) (g.K.Keeper.held c.args.keeper.now) (g.K.Keeper.held c.pieces.keeper) (g.K.Keeper.held c.count_piece.new.keeper) c.pieces.counting c.pieces.first c.pieces.reader c.pieces.invariant.up_to c.count_piece.new.counting c.in_ok-piece.piece.last c.count_piece.new.reader c.in-AtFault.fault
    (subst Counts c.in-AtFault.is c.in_ok-piece.ensures.counts) (subst Leaves c.in-AtFault.is c.in_ok-piece.ensures.leaves) next)
