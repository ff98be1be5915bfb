use Rattle.std.proofs.Common.{◌≡◌, ◌<◌, ◌+◌, ◌^◌, length, Option, Some, Ok, Err, arith, rules, refl, sym, ap, subst, ◌∙◌}
use Rattle.std.specs.Prelude.{OnSome}
use Rattle.std.proofs.lemmas.Result.{err_from_is_err_and}
use Rattle.vx_plane.specs.Plane.{Page}
use Rattle.vx_pbm.specs.Images.{Unread, with_page, images_left, Walks}
use Rattle.vx_command_read.proofs.ImageActs.{ReadUpTo, none_read, one_read, image_halts, reader_halts, all_read}
use Rattle.vx_command_read.proofs.images.read_scan.Goals as goal

pub images-init : goal.images-init
images-init g c =
    let Read : Unread → Type 0 = λ unread. ReadUpTo c.args.election.now c.args.word c.args.first c.args.bytes.now (g.S.Sink.taken c.args.out.now) (g.S.Sink.taken c.args.out.now) unread c.args.first in
    record {
      read = subst Read (sym c.new-reader.ensures) (none_read c.args.election.now c.args.word c.args.first c.args.bytes.now (g.S.Sink.taken c.args.out.now));
      still = search rules;
    }

pub returns-in-Err-clause-read : goal.returns-in-Err-clause-read
returns-in-Err-clause-read g c rest held =
    rw c.halt_of_bitmap.ensures (reader_halts c.acts_in_order.ensures c.args.election.now c.args.word c.args.first c.args.bytes.now _ _ c.images.reader c.images.number c.images.invariant.read c.in-Err.fault c.next.new.self c.in-Err.ensures.images rest held)

pub returns-in-Ok-None-clause-read : goal.returns-in-Ok-None-clause-read
returns-in-Ok-None-clause-read g c =
    let Left : Option Page → Type 0 = λ found. Walks c.images.reader (Ok found) c.next.new.self in
    all_read c.acts_in_order.ensures c.args.election.now c.args.word c.args.first c.args.bytes.now _ _ c.images.reader c.images.number c.images.invariant.read (subst Left c.in-Ok-None.field-0-is c.in-Ok-None.ensures.images)

pub returns-in_err-read_image-in-Ok-Some-clause-read : goal.returns-in_err-read_image-in-Ok-Some-clause-read
returns-in_err-read_image-in-Ok-Some-clause-read g c =
    let err = err_from_is_err_and c.from_residual.result c.from_residual.ensures.1 in
    let Left : Option Page → Type 0 = λ found. Walks c.images.reader (Ok found) c.next.new.self in
    let left : images_left c.images.reader ≡ with_page c.in-Ok-Some.image (images_left c.next.new.self) = subst Left c.in-Ok-Some.field-0-is c.in-Ok-Some.ensures.images in
    rw (err.1 ∙ ap Err err.2) (image_halts c.acts_in_order.ensures c.args.election.now c.args.word c.args.first c.args.bytes.now _ _ c.images.reader c.images.number c.images.invariant.read c.in-Ok-Some.image c.next.new.self _ c.in_err-read_image-in-Ok-Some.field-0.0 left c.in_err-read_image-in-Ok-Some.ensures.done)

pub returns-in_err-read_image-in-Ok-Some-clause-late : goal.returns-in_err-read_image-in-Ok-Some-clause-late
returns-in_err-read_image-in-Ok-Some-clause-late g c first =
    let err = err_from_is_err_and c.from_residual.result c.from_residual.ensures.1 in
    rw (err.1 ∙ ap Err err.2) (c.in_err-read_image-in-Ok-Some.ensures.late first)

less_unread : (old new : Unread) (found : Option Page) (page : Page) → found ≡ Some page → OnSome found (length new.text < length old.text) → length new.text < length old.text
less_unread old new found page is less =
    let Less : Option Page → Type 0 = λ some. OnSome some (length new.text < length old.text) in
    subst Less is less

pub overflow_add-number : goal.overflow_add-number
overflow_add-number g c =
    let less : length c.next.new.self.text < length c.images.reader.text = less_unread c.images.reader c.next.new.self _ c.in-Ok-Some.image c.in-Ok-Some.field-0-is c.in-Ok-Some.ensures.less in
    let small : c.images.number + 1 < 2 ^ 64 = omega (arith, less, c.images.invariant.read.room, c.requires.room) in
    search rules

pub images-smaller : goal.images-smaller
images-smaller g c = less_unread c.images.reader c.next.new.self _ c.in-Ok-Some.image c.in-Ok-Some.field-0-is c.in-Ok-Some.ensures.less

pub images-preserved : goal.images-preserved
images-preserved g c =
    let Left : Option Page → Type 0 = λ found. Walks c.images.reader (Ok found) c.next.new.self in
    let left : images_left c.images.reader ≡ with_page c.in-Ok-Some.image (images_left c.next.new.self) = subst Left c.in-Ok-Some.field-0-is c.in-Ok-Some.ensures.images in
    let less : length c.next.new.self.text < length c.images.reader.text = less_unread c.images.reader c.next.new.self _ c.in-Ok-Some.image c.in-Ok-Some.field-0-is c.in-Ok-Some.ensures.less in
    record {
      read = one_read c.acts_in_order.ensures c.args.election.now c.args.word c.args.first c.args.bytes.now _ _ c.images.reader c.images.number c.images.invariant.read c.in-Ok-Some.image c.next.new.self _ left less c.in_ok-read_image-in-Ok-Some.ensures.done;
      still = c.in_ok-read_image-in-Ok-Some.ensures.sink.sink.still refl ∙ c.images.invariant.still;
    }
