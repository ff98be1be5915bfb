use Rattle.std.proofs.Common.{◌≡◌, ◌<◌, length, drop, Err, None, ap, sym, subst, ◌∙◌}
use Rattle.std.proofs.lemmas.Result.{err_from_is_err_and}
use Rattle.vx_gray.specs.Images.{Unread, unread_from, images_left, with_page, ended, Walks}
use Rattle.vx_gray.specs.Step.{StepsOver}
use Rattle.vx_gray.proofs.Walks.{shorter, walks_page, walks_end, walks_fault}
use Rattle.vx_gray.proofs.reader.PgmReader.next.Goals as goal

pub returns-in_err-first_step-clause-images : goal.returns-in_err-first_step-clause-images
returns-in_err-first_step-clause-images c =
    let p = err_from_is_err_and c.from_residual.result c.from_residual.ensures.1 in
    subst (λ (old : Unread). Walks old c.from_residual.result old) c.self.view_is
    (subst (λ result. Walks (unread_from c.self.inside.bytes.now c.self.inside.at) result (unread_from c.self.inside.bytes.now c.self.inside.at))
    (sym (p.1 ∙ ap Err p.2))
    (walks_fault (unread_from c.self.inside.bytes.now c.self.inside.at) c.in_err-first_step.field-0.0 c.in_err-first_step.ensures))

pub returns-in-None-clause-images : goal.returns-in-None-clause-images
returns-in-None-clause-images c =
    subst (λ (old : Unread). images_left old ≡ ended None) c.self.view_is
    (walks_end (unread_from c.self.inside.bytes.now c.self.inside.at) (rw c.in-None.is at c.in_ok-first_step.ensures))

pub returns-in-Some-clause-images : goal.returns-in-Some-clause-images
returns-in-Some-clause-images c =
    let step : StepsOver c.self.inside.bytes.now
    (unread_from c.self.inside.bytes.now c.self.inside.at) c.in-Some.step = rw c.in-Some.is at c.in_ok-first_step.ensures in
    subst (λ (old : Unread). images_left old ≡ with_page c.in-Some.step.page
    (images_left (unread_from c.self.inside.bytes.now c.in-Some.step.at))) c.self.view_is
    (walks_page (unread_from c.self.inside.bytes.now c.self.inside.at) (unread_from c.self.inside.bytes.now c.in-Some.step.at) c.in-Some.step.page step.first)

pub returns-in-Some-clause-less : goal.returns-in-Some-clause-less
returns-in-Some-clause-less c =
    let step : StepsOver c.self.inside.bytes.now
    (unread_from c.self.inside.bytes.now c.self.inside.at) c.in-Some.step = rw c.in-Some.is at c.in_ok-first_step.ensures in
    subst (λ (old : Unread). length (drop c.in-Some.step.at c.self.inside.bytes.now) < length old.text) c.self.view_is
    (shorter (unread_from c.self.inside.bytes.now c.self.inside.at) _ step.first)
