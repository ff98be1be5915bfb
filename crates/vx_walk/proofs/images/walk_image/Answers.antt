use Rattle.std.proofs.Common.{◌+◌, None, Ok, Option, Err, ap, subst, sym, ◌∙◌}
use Rattle.std.proofs.lemmas.Result.{err_from_is_err_and}
use Rattle.vx_plane.specs.Plane.{Page}
use Rattle.vx_walk.specs.Steps.{WalksImage}
use Rattle.vx_walk.proofs.ImageActs.{image-halts, image-pairs, walked_so}
use Rattle.vx_walk.proofs.images.walk_image.Goals as goal

pub returns-in_err-end_sheet-in-Some-clause-done : goal.returns-in_err-end_sheet-in-Some-clause-done
returns-in_err-end_sheet-in-Some-clause-done g c =
    let err = err_from_is_err_and c.from_residual.result c.from_residual.ensures.1 in
    let cause = c.in_err-end_sheet-in-Some.field-0.0 in
    let step = g.W.SheetWork.step c.args.work.now c.args.scan.now in
    let Walks : Option Page → Type 0 = λ waiting. WalksImage step (walked_so c.args.walked.sheets waiting) c.args.image (g.S.Sink.taken c.args.out.now) (g.S.Sink.taken c.end_sheet.new.out) (Err cause) in
    rw (err.1 ∙ ap Err err.2)
    (subst Walks (sym c.in-Some.is)
    (image-halts step c.args.walked.sheets c.in-Some.first c.args.image (g.S.Sink.taken c.args.out.now) (g.S.Sink.taken c.end_sheet.new.out) cause c.in_err-end_sheet-in-Some.ensures.done))

pub returns-in_ok-end_sheet-in-Some-clause-done : goal.returns-in_ok-end_sheet-in-Some-clause-done
returns-in_ok-end_sheet-in-Some-clause-done g c =
    let step = g.W.SheetWork.step c.args.work.now c.args.scan.now in
    let Walks : Option Page → Type 0 = λ waiting. WalksImage step (walked_so c.args.walked.sheets waiting) c.args.image (g.S.Sink.taken c.args.out.now) (g.S.Sink.taken c.end_sheet.new.out) (Ok (walked_so (c.args.walked.sheets + 1) None)) in
    subst Walks (sym c.in-Some.is)
    (image-pairs step c.args.walked.sheets c.in-Some.first c.args.image (g.S.Sink.taken c.args.out.now) (g.S.Sink.taken c.end_sheet.new.out) c.in_ok-end_sheet-in-Some.ensures.done)
