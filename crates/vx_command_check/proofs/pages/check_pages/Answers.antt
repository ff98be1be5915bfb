use Rattle.std.proofs.Common.{arith, ◌≡◌, ℕ, length, Option, None, Err, Ok, refl, sym, ap, subst, ◌∙◌}
use Rattle.std.proofs.lemmas.Result.{err_from_is_err_and}
use Rattle.vx_pbm.specs.Images.{Unread as UnreadImages, images_left, whole as all_of}
use Rattle.vx_readings.specs.declared.said.SaidPage.{SaidPage}
use Rattle.vx_readings.specs.Readings.{Unread, readings_left, whole, Steps, Walks}
use Rattle.vx_readings.specs.Readings as said
use Rattle.vx_command_check.specs.Outcome.{pages_halt}
use Rattle.vx_command_check.specs.Walks.{RestAnswers, ChecksPage}
use Rattle.vx_command_check.proofs.PageActs.{CheckedTo, checked-none, rest-checked, line-halts, said-ended, page-halts, page-done}
use Rattle.vx_command_check.proofs.pages.check_pages.Goals as goal

pub pages-init : goal.pages-init
pages-init g c =
    let taken = g.S.Sink.taken c.args.out.now in
    let From : UnreadImages → Unread → Type 0 = λ images left. CheckedTo c.args.election.now c.args.scans.now c.args.text.now c.args.held images left taken taken in
    record {
      checked =
          subst (λ (images : UnreadImages). From images c.new-said.result) (sym c.new-images.ensures)
          (subst (λ (left : Unread). From (all_of c.args.scans.now) left) (sym (c.new-said.ensures ∙ ap (λ (tag : ℕ). whole c.args.election.now.paper tag c.args.text.now) c.tag_of.ensures.exact))
          (checked-none c.args.election.now c.args.scans.now c.args.text.now c.args.held taken c.requires.walked c.requires.held));
      still = refl;
    }

pub returns-in-None-clause-done : goal.returns-in-None-clause-done
returns-in-None-clause-done g c =
    let walks = rw c.in-None.is at c.in_ok-next_image.ensures.walks in
    let checked = c.pages.invariant.checked in
    let none : length (images_left c.pages.images).pages ≡ 0 = ap length walks.0 in
    let all : c.pages.said.pages ≡ c.args.held = omega (arith, checked.count, none) in
    rest-checked c.acts_in_order.ensures c.args.election.now c.args.scans.now c.args.text.now c.args.held c.pages.images c.pages.said _ _ checked walks.0 c.check_rest.result
    (subst (λ (n : ℕ). RestAnswers n (readings_left c.pages.said) c.check_rest.result) (sym all) c.check_rest.ensures)

pub returns-in-Err-clause-done : goal.returns-in-Err-clause-done
returns-in-Err-clause-done g c =
    let more = rw c.in-Some.is at c.in_ok-next_image.ensures.walks in
    rw c.halt_of_readings.ensures
    (line-halts c.acts_in_order.ensures c.args.election.now c.args.scans.now c.args.text.now c.args.held c.pages.images c.pages.said _ _ c.pages.invariant.checked
    c.in-Some.image c.next_image.new.reader more c.in-Err.fault c.next.new.self c.in-Err.ensures.readings)

pub returns-in-Ok-None-clause-done : goal.returns-in-Ok-None-clause-done
returns-in-Ok-None-clause-done g c =
    let more = rw c.in-Some.is at c.in_ok-next_image.ensures.walks in
    let Left : Option SaidPage → Type 0 = λ found. Walks c.pages.said (Ok found) c.next.new.self in
    let Stepped : Option SaidPage → Type 0 = λ found. Steps c.pages.said (Ok found) c.next.new.self in
    let none : readings_left c.pages.said ≡ said.ended None = subst Left c.in-Ok-None.field-0-is c.in-Ok-None.ensures.readings in
    let same = (subst Stepped c.in-Ok-None.field-0-is c.in-Ok-None.ensures.exact).1 in
    let pages : c.pages-in-Ok-None.result ≡ c.pages.said.pages = c.pages-in-Ok-None.ensures ∙ ap (λ (left : Unread). left.pages) same in
    rw (c.halt_of_pages.ensures ∙ ap (λ (n : ℕ). pages_halt n c.args.held) pages)
    (said-ended c.acts_in_order.ensures c.args.election.now c.args.scans.now c.args.text.now c.args.held c.pages.images c.pages.said _ _ c.pages.invariant.checked
    c.in-Some.image c.next_image.new.reader more none)

pub returns-in_err-check_page-in-Ok-Some-clause-done : goal.returns-in_err-check_page-in-Ok-Some-clause-done
returns-in_err-check_page-in-Ok-Some-clause-done g c =
    let err = err_from_is_err_and c.from_residual-in_err-check_page-in-Ok-Some.result c.from_residual-in_err-check_page-in-Ok-Some.ensures.1 in
    let more = rw c.in-Some.is at c.in_ok-next_image.ensures.walks in
    let Left : Option SaidPage → Type 0 = λ found. Walks c.pages.said (Ok found) c.next.new.self in
    let walks : readings_left c.pages.said ≡ said.with_page c.in-Ok-Some.page (readings_left c.next.new.self) = subst Left c.in-Ok-Some.field-0-is c.in-Ok-Some.ensures.readings in
    let counted = rw c.in-Ok-Some.field-0-is at c.in-Ok-Some.ensures.counted in
    let number : c.pages-number.result ≡ c.next.new.self.pages = c.pages-number.ensures in
    let cause = c.in_err-check_page-in-Ok-Some.field-0.0 in
    let a = g.S.Sink.taken c.pages.out in
    let b = g.S.Sink.taken c.check_page.new.out in
    let checks : ChecksPage c.args.election.now c.next.new.self.pages c.in-Some.image c.in-Ok-Some.page a b (Err cause) =
    subst (λ (n : ℕ). ChecksPage c.args.election.now n c.in-Some.image c.in-Ok-Some.page a b (Err cause)) number c.in_err-check_page-in-Ok-Some.ensures.checks in
    rw (err.1 ∙ ap Err err.2)
    (page-halts c.acts_in_order.ensures c.args.election.now c.args.scans.now c.args.text.now c.args.held c.pages.images c.pages.said _ _ c.pages.invariant.checked
    c.in-Some.image c.next_image.new.reader more c.in-Ok-Some.page c.next.new.self b walks counted cause checks)

pub pages-preserved : goal.pages-preserved
pages-preserved g c =
    let more = rw c.in-Some.is at c.in_ok-next_image.ensures.walks in
    let Left : Option SaidPage → Type 0 = λ found. Walks c.pages.said (Ok found) c.next.new.self in
    let walks : readings_left c.pages.said ≡ said.with_page c.in-Ok-Some.page (readings_left c.next.new.self) = subst Left c.in-Ok-Some.field-0-is c.in-Ok-Some.ensures.readings in
    let counted = rw c.in-Ok-Some.field-0-is at c.in-Ok-Some.ensures.counted in
    let number : c.pages-number.result ≡ c.next.new.self.pages = c.pages-number.ensures in
    let a = g.S.Sink.taken c.pages.out in
    let b = g.S.Sink.taken c.check_page.new.out in
    let checks : ChecksPage c.args.election.now c.next.new.self.pages c.in-Some.image c.in-Ok-Some.page a b (Ok tt) =
    subst (λ (n : ℕ). ChecksPage c.args.election.now n c.in-Some.image c.in-Ok-Some.page a b (Ok tt)) number c.in_ok-check_page-in-Ok-Some.ensures.checks in
    record {
      checked =
          page-done c.acts_in_order.ensures c.args.election.now c.args.scans.now c.args.text.now c.args.held c.pages.images c.pages.said _ _ c.pages.invariant.checked
          c.in-Some.image c.next_image.new.reader more c.in-Ok-Some.page c.next.new.self b walks counted checks;
      still = c.in_ok-check_page-in-Ok-Some.ensures.sink.sink.still refl ∙ c.pages.invariant.still;
    }
