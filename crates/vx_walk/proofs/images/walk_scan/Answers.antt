use Rattle.std.proofs.Common.{◌≡◌, ◌<◌, length, Option, Some, Ok, Err, refl, ap, subst, sym, ◌∙◌}
use Rattle.std.specs.Prelude.{OnSome}
use Rattle.std.proofs.lemmas.Result.{err_from_is_err_and}
use Rattle.vx_plane.specs.Plane.{Page}
use Rattle.vx_pbm.specs.Images.{Unread, images_of, with_page, images_left, Walks}
use Rattle.vx_walk.specs.declared.walked.Walked.{Walked}
use Rattle.vx_walk.specs.Steps.{WalksImage, WalksScan}
use Rattle.vx_walk.proofs.ScanActs.{all-walked, image-more, image-stops, memory-ends, none-yet, reader-halts}
use Rattle.vx_walk.proofs.images.walk_scan.Goals as goal

pub images-init : goal.images-init
images-init g c = record {
  up_to = none-yet (g.W.SheetWork.step c.args.work.now c.args.scan.now) c.args.word c.args.walked c.args.bytes.now c.new-reader.result (g.S.Sink.taken c.args.out.now) c.new-reader.ensures;
  may = c.requires.may;
  same = refl;
  still = refl;
}

pub returns-in-Err-clause-done : goal.returns-in-Err-clause-done
returns-in-Err-clause-done g c next held =
    rw c.halt_of_bitmap.ensures (reader-halts c.acts_in_order.ensures (g.W.SheetWork.step c.args.work.now c.args.scan.now) c.args.word c.args.walked c.args.bytes.now _ _ c.images.now c.images.reader c.images.invariant.up_to c.in-Err.fault c.next.new.self c.in-Err.ensures.images next held)

pub returns-in-Ok-None-clause-done : goal.returns-in-Ok-None-clause-done
returns-in-Ok-None-clause-done g c =
    let step = g.W.SheetWork.step c.args.work.now c.args.scan.now in
    let Left : Option Page → Type 0 = λ found. Walks c.images.reader (Ok found) c.next.new.self in
    let Walked_to : Walked → Type 0 = λ walked. WalksScan step c.args.word c.args.walked (images_of c.args.bytes.now) (g.S.Sink.taken c.args.out.now) (g.S.Sink.taken c.images.out) (Ok walked) in
    subst Walked_to (sym c.in_ok-copied-in-Ok-None.ensures)
    (all-walked c.acts_in_order.ensures step c.args.word c.args.walked c.args.bytes.now _ _ c.images.now c.images.reader c.images.invariant.up_to (subst Left c.in-Ok-None.field-0-is c.in-Ok-None.ensures.images))

pub returns-in_err-copied-in-Ok-None-clause-done : goal.returns-in_err-copied-in-Ok-None-clause-done
returns-in_err-copied-in-Ok-None-clause-done g c =
    let err = err_from_is_err_and c.from_residual.result c.from_residual.ensures.1 in
    rw (err.1 ∙ ap Err err.2)
    (memory-ends c.acts_in_order.ensures (g.W.SheetWork.step c.args.work.now c.args.scan.now) c.args.word c.args.walked c.args.bytes.now _ _ c.images.now c.images.reader c.images.invariant.up_to)

pub returns-in_err-now-in-Ok-Some-clause-done : goal.returns-in_err-now-in-Ok-Some-clause-done
returns-in_err-now-in-Ok-Some-clause-done g c =
    let err = err_from_is_err_and c.from_residual-in_err-now-in-Ok-Some.result c.from_residual-in_err-now-in-Ok-Some.ensures.1 in
    let cause = c.in_err-now-in-Ok-Some.field-0.0 in
    let Left : Option Page → Type 0 = λ found. Walks c.images.reader (Ok found) c.next.new.self in
    let left : images_left c.images.reader ≡ with_page c.in-Ok-Some.image (images_left c.next.new.self) = subst Left c.in-Ok-Some.field-0-is c.in-Ok-Some.ensures.images in
    let By : g.row.W.Denot → Type 0 = λ work. WalksImage (g.W.SheetWork.step work c.args.scan.now) c.images.now c.in-Ok-Some.image (g.S.Sink.taken c.images.out) (g.S.Sink.taken c.walk_image.new.out) (Err cause) in
    rw (err.1 ∙ ap Err err.2)
    (image-stops c.acts_in_order.ensures (g.W.SheetWork.step c.args.work.now c.args.scan.now) c.args.word c.args.walked c.args.bytes.now _ _ c.images.now c.images.reader c.images.invariant.up_to c.in-Ok-Some.image c.next.new.self _ cause left
    (subst By c.images.invariant.same c.in_err-now-in-Ok-Some.ensures.done))

less_unread : (old new : Unread) (found : Option Page) (page : Page) → found ≡ Some page → OnSome found (length new.text < length old.text) → length new.text < length old.text
less_unread old new found page is less =
    let Less : Option Page → Type 0 = λ some. OnSome some (length new.text < length old.text) in
    subst Less is less

pub images-smaller : goal.images-smaller
images-smaller g c = less_unread c.images.reader c.next.new.self _ c.in-Ok-Some.image c.in-Ok-Some.field-0-is c.in-Ok-Some.ensures.less

pub images-preserved : goal.images-preserved
images-preserved g c =
    let Left : Option Page → Type 0 = λ found. Walks c.images.reader (Ok found) c.next.new.self in
    let left : images_left c.images.reader ≡ with_page c.in-Ok-Some.image (images_left c.next.new.self) = subst Left c.in-Ok-Some.field-0-is c.in-Ok-Some.ensures.images in
    let less : length c.next.new.self.text < length c.images.reader.text = less_unread c.images.reader c.next.new.self _ c.in-Ok-Some.image c.in-Ok-Some.field-0-is c.in-Ok-Some.ensures.less in
    let By : g.row.W.Denot → Type 0 = λ work. WalksImage (g.W.SheetWork.step work c.args.scan.now) c.images.now c.in-Ok-Some.image (g.S.Sink.taken c.images.out) (g.S.Sink.taken c.walk_image.new.out) (Ok c.in_ok-now-in-Ok-Some.now) in
    record {
      up_to = image-more c.acts_in_order.ensures (g.W.SheetWork.step c.args.work.now c.args.scan.now) c.args.word c.args.walked c.args.bytes.now _ _ c.images.now c.images.reader c.images.invariant.up_to c.in-Ok-Some.image c.next.new.self _ _ left less
          c.in_ok-now-in-Ok-Some.ensures.one_more (subst By c.images.invariant.same c.in_ok-now-in-Ok-Some.ensures.done);
      may = subst g.W.SheetWork.may (sym c.in_ok-now-in-Ok-Some.ensures.same) c.images.invariant.may;
      same = c.in_ok-now-in-Ok-Some.ensures.same ∙ c.images.invariant.same;
      still = c.in_ok-now-in-Ok-Some.ensures.sink.sink.still refl ∙ c.images.invariant.still;
    }
