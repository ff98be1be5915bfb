use Rattle.std.proofs.Common.{rules, ◌≡◌, ◌<◌, ◌^◌, length, ◌+◌, Result, Option, Some, None, Ok, Err, refl, sym, ap, subst, ◌∙◌, arith}
use Rattle.std.proofs.lemmas.Result.{err_from_is_err_and}
use Rattle.vx_readings.specs.declared.fault.ReadingsFault.{ReadingsFault}
use Rattle.vx_readings.specs.declared.said.SaidPage.{SaidPage}
use Rattle.vx_readings.specs.Readings.{Unread, behind_page, next_of, readings_left, with_page, ended, Steps, Walks}
use Rattle.vx_readings.proofs.Pages.{Fewer, page-less, page-placed, placed-fit, next-none, next-page, steps-fault, left-fault, walks-page, walks-end}
use Rattle.vx_readings.proofs.reader.ReadingsReader.next.Goals as goal

pub returns-then-is_empty-clause-exact : goal.returns-then-is_empty-clause-exact
returns-then-is_empty-clause-exact c =
    subst (λ (old : Unread). (next_of old ≡ Ok None) × (old ≡ old)) c.self.view_is
    (next-none (record { paper = c.self.inside.paper; tag = c.self.inside.tag; pages = c.self.inside.pages; left = c.self.inside.left }) c.if-is_empty.ensures, refl)

pub returns-then-is_empty-clause-readings : goal.returns-then-is_empty-clause-readings
returns-then-is_empty-clause-readings c =
    subst (λ (old : Unread). readings_left old ≡ ended None) c.self.view_is
    (let unread : Unread = record { paper = c.self.inside.paper; tag = c.self.inside.tag; pages = c.self.inside.pages; left = c.self.inside.left } in
    walks-end unread (next-none unread c.if-is_empty.ensures))

pub overflow_add-number : goal.overflow_add-number
overflow_add-number c =
    let high : c.self.inside.pages < c.self.inside.left.number = c.self.invariant in
    let small : c.self.inside.pages + 1 < 2 ^ 32 = omega (arith, high, c.number-line.ensures) in
    search (rules, small)

pub returns-in_err-page-clause-exact : goal.returns-in_err-page-clause-exact
returns-in_err-page-clause-exact c =
    let err = err_from_is_err_and c.from_residual.result c.from_residual.ensures.1 in
    let unread : Unread = record { paper = c.self.inside.paper; tag = c.self.inside.tag; pages = c.self.inside.pages; left = c.self.inside.left } in
    subst (λ (old : Unread). Steps old c.from_residual.result old) c.self.view_is
    (subst (λ (result : Result (Option SaidPage) ReadingsFault). Steps unread result unread) (sym (err.1 ∙ ap Err err.2))
    (steps-fault unread c.if-is_empty.ensures c.in_err-page.field-0.0 c.in_err-page.ensures))

pub returns-in_err-page-clause-readings : goal.returns-in_err-page-clause-readings
returns-in_err-page-clause-readings c =
    let err = err_from_is_err_and c.from_residual.result c.from_residual.ensures.1 in
    let unread : Unread = record { paper = c.self.inside.paper; tag = c.self.inside.tag; pages = c.self.inside.pages; left = c.self.inside.left } in
    subst (λ (old : Unread). Walks old c.from_residual.result old) c.self.view_is
    (subst (λ (result : Result (Option SaidPage) ReadingsFault). Walks unread result unread) (sym (err.1 ∙ ap Err err.2))
    (left-fault unread c.if-is_empty.ensures c.in_err-page.field-0.0 c.in_err-page.ensures))

pub invariant_of-self : goal.invariant_of-self
invariant_of-self c =
    let high : c.self.inside.pages < c.self.inside.left.number = c.self.invariant in
    let more : Fewer c.self.inside.left.number c.self.inside.left.lines c.in_ok-page.left =
    page-less c.self.inside.paper c.self.inside.tag (c.self.inside.pages + 1) c.self.inside.left (c.in_ok-page.page, c.in_ok-page.left) c.in_ok-page.ensures in
    omega (arith, high, more.number_more)

pub returns-clause-exact : goal.returns-clause-exact
returns-clause-exact c =
    let unread : Unread = record { paper = c.self.inside.paper; tag = c.self.inside.tag; pages = c.self.inside.pages; left = c.self.inside.left } in
    subst (λ (old : Unread). next_of old ≡ Ok (Some (c.in_ok-page.page, behind_page unread c.in_ok-page.left))) c.self.view_is
    (next-page unread c.if-is_empty.ensures (c.in_ok-page.page, c.in_ok-page.left) c.in_ok-page.ensures)

pub returns-clause-readings : goal.returns-clause-readings
returns-clause-readings c =
    let unread : Unread = record { paper = c.self.inside.paper; tag = c.self.inside.tag; pages = c.self.inside.pages; left = c.self.inside.left } in
    subst (λ (old : Unread). readings_left old ≡ with_page c.in_ok-page.page (readings_left (behind_page unread c.in_ok-page.left))) c.self.view_is
    (walks-page unread c.in_ok-page.page (behind_page unread c.in_ok-page.left)
    (next-page unread c.if-is_empty.ensures (c.in_ok-page.page, c.in_ok-page.left) c.in_ok-page.ensures))

pub returns-clause-less : goal.returns-clause-less
returns-clause-less c =
    let more : Fewer c.self.inside.left.number c.self.inside.left.lines c.in_ok-page.left =
    page-less c.self.inside.paper c.self.inside.tag (c.self.inside.pages + 1) c.self.inside.left (c.in_ok-page.page, c.in_ok-page.left) c.in_ok-page.ensures in
    subst (λ (old : Unread). length c.in_ok-page.left.lines < length old.left.lines) c.self.view_is more.lines_less

pub returns-clause-lines_fit : goal.returns-clause-lines_fit
returns-clause-lines_fit c =
    placed-fit c.in_ok-page.page c.in_ok-page.left
    (page-placed c.self.inside.paper c.self.inside.tag (c.self.inside.pages + 1) c.self.inside.left (c.in_ok-page.page, c.in_ok-page.left) c.in_ok-page.ensures)
    (omega (arith, c.number-next.ensures))

pub returns-clause-counted : goal.returns-clause-counted
returns-clause-counted c =
    subst (λ (old : Unread). c.self.inside.pages + 1 ≡ old.pages + 1) c.self.view_is refl
