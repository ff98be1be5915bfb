use Rattle.std.proofs.Common.{◌≡◌, ◌<◌, length, Option, Some, Ok, Err, refl, ap, subst, ◌∙◌}
use Rattle.std.specs.Prelude.{OnSome}
use Rattle.std.proofs.lemmas.Result.{err_from_is_err_and}
use Rattle.vx_gray.specs.Gray.{Gray}
use Rattle.vx_gray.specs.Images.{Unread, with_page, images_left, Walks}
use Rattle.vx_command_gray.proofs.Acts.{none_written, one_written, one_broken, all_written, fault_met, written_stops}
use Rattle.vx_command_gray.proofs.writing.write_scan.Goals as goal

pub images-init : goal.images-init
images-init g c = record {
  comes = none_written c.args.word c.args.bytes.now c.new-reader.result (g.S.Sink.taken c.args.out.now) c.new-reader.ensures;
  still = refl;
}

pub returns-in-Err-clause-written : goal.returns-in-Err-clause-written
returns-in-Err-clause-written g c =
    fault_met c.acts_in_order.ensures c.args.word c.args.bytes.now _ _ c.images.reader c.images.invariant.comes c.in-Err.fault c.in-Err.ensures.images

pub returns-in-Ok-None-clause-written : goal.returns-in-Ok-None-clause-written
returns-in-Ok-None-clause-written g c =
    let Left : Option Gray → Type 0 = λ found. Walks c.images.reader (Ok found) c.next.new.self in
    all_written c.acts_in_order.ensures c.args.word c.args.bytes.now _ _ c.images.reader c.images.invariant.comes
    (subst Left c.in-Ok-None.field-0-is c.in-Ok-None.ensures.images)

less_unread : (old new : Unread) (found : Option Gray) (page : Gray) → found ≡ Some page → OnSome found (length new.text < length old.text)
    → length new.text < length old.text
less_unread old new found page is less =
    let Less : Option Gray → Type 0 = λ some. OnSome some (length new.text < length old.text) in
    subst Less is less

pub images-smaller : goal.images-smaller
images-smaller g c = less_unread c.images.reader c.next.new.self _ c.in-Ok-Some.page c.in-Ok-Some.field-0-is c.in-Ok-Some.ensures.less

pub images-preserved : goal.images-preserved
images-preserved g c =
    let Left : Option Gray → Type 0 = λ found. Walks c.images.reader (Ok found) c.next.new.self in
    let left : images_left c.images.reader ≡ with_page c.in-Ok-Some.page
    (images_left c.next.new.self) = subst Left c.in-Ok-Some.field-0-is c.in-Ok-Some.ensures.images in
    record {
      comes = one_written c.acts_in_order.ensures c.args.word c.args.bytes.now _ _ c.images.reader c.images.invariant.comes c.in-Ok-Some.page
          c.next.new.self _ left c.in_ok-write_page-in-Ok-Some.ensures.done;
      still = c.in_ok-write_page-in-Ok-Some.ensures.sink.sink.still refl ∙ c.images.invariant.still;
    }

pub returns-in_err-write_page-in-Ok-Some-clause-written : goal.returns-in_err-write_page-in-Ok-Some-clause-written
returns-in_err-write_page-in-Ok-Some-clause-written g c =
    let err = err_from_is_err_and c.from_residual.result c.from_residual.ensures.1 in
    let Left : Option Gray → Type 0 = λ found. Walks c.images.reader (Ok found) c.next.new.self in
    let left : images_left c.images.reader ≡ with_page c.in-Ok-Some.page
    (images_left c.next.new.self) = subst Left c.in-Ok-Some.field-0-is c.in-Ok-Some.ensures.images in
    rw (err.1 ∙ ap Err err.2) (one_broken c.acts_in_order.ensures c.args.word c.args.bytes.now _ _ c.images.reader c.images.invariant.comes
    c.in-Ok-Some.page c.next.new.self _ c.in_err-write_page-in-Ok-Some.field-0.0 left c.in_err-write_page-in-Ok-Some.ensures.done)

pub returns-in_err-write_page-in-Ok-Some-clause-stops : goal.returns-in_err-write_page-in-Ok-Some-clause-stops
returns-in_err-write_page-in-Ok-Some-clause-stops g c =
    let err = err_from_is_err_and c.from_residual.result c.from_residual.ensures.1 in
    rw (err.1 ∙ ap Err err.2) (written_stops _ _ _ c.in_err-write_page-in-Ok-Some.field-0.0
    c.in_err-write_page-in-Ok-Some.ensures.sink.no_keeper_fault c.in_err-write_page-in-Ok-Some.ensures.done)
