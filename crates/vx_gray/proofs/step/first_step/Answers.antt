use Rattle.std.proofs.Common.{◌≤◌, ◌==◌, length, Err, ap, sym, subst, ◌∙◌, arith, length-drop}
use Rattle.std.proofs.lemmas.Bool.{eqb-true, eqb-false}
use Rattle.std.proofs.lemmas.List.{take_rest}
use Rattle.std.proofs.lemmas.Result.{err_from_is_err_and}
use Rattle.vx_gray.specs.Images.{unread_from, is_raw}
use Rattle.vx_gray.specs.Step.{Finds}
use Rattle.vx_gray.proofs.Steps.{next_end, next_bad, found_image, found_fault}
use Rattle.vx_gray.proofs.step.first_step.Goals as goal

pub returns-then-is_empty : goal.returns-then-is_empty
returns-then-is_empty c =
    next_end (unread_from c.args.bytes.now c.args.at)
    (eqb-true _ _ (ap (λ text. length text == 0) (sym (take_rest c.args.bytes.now c.args.at)) ∙ (sym c.is_empty.ensures ∙ c.if-is_empty.true)))

pub returns-then-not-starts_with : goal.returns-then-not-starts_with
returns-then-not-starts_with c =
    next_bad (unread_from c.args.bytes.now c.args.at)
    (eqb-false _ _ (ap (λ text. length text == 0) (sym (take_rest c.args.bytes.now c.args.at)) ∙ (sym c.is_empty.ensures ∙ c.if-is_empty.false)))
    (ap is_raw (sym (take_rest c.args.bytes.now c.args.at)) ∙ (sym c.starts_with.ensures.value ∙ c.if-not-starts_with.true))

pub returns-in_err-page : goal.returns-in_err-page
returns-in_err-page c =
    let p = err_from_is_err_and c.from_residual.result c.from_residual.ensures.1 in
    subst (Finds c.args.bytes.now (unread_from c.args.bytes.now c.args.at)) (sym (p.1 ∙ ap Err p.2))
    (found_fault c.args.bytes.now _ c.args.at c.in_err-page.field-0.0 (take_rest c.args.bytes.now c.args.at)
    (eqb-false _ _ (ap (λ text. length text == 0) (sym (take_rest c.args.bytes.now c.args.at)) ∙ (sym c.is_empty.ensures ∙ c.if-is_empty.false)))
    (ap is_raw (sym (take_rest c.args.bytes.now c.args.at)) ∙ (sym c.starts_with.ensures.value ∙ c.if-not-starts_with.false))
    c.in_err-page.ensures.exact)

pub returns : goal.returns
returns c = record {
  first = found_image c.args.bytes.now _ c.args.at c.in_ok-page.size c.in_ok-page.page (take_rest c.args.bytes.now c.args.at)
      (eqb-false _ _ (ap (λ text. length text == 0) (sym (take_rest c.args.bytes.now c.args.at)) ∙ (sym c.is_empty.ensures ∙ c.if-is_empty.false)))
      (ap is_raw (sym (take_rest c.args.bytes.now c.args.at)) ∙ (sym c.starts_with.ensures.value ∙ c.if-not-starts_with.false))
      c.in_ok-page.ensures.exact;
  within = (let within = subst (λ text. c.in_ok-page.size ≤ length text) (take_rest c.args.bytes.now c.args.at) c.in_ok-page.ensures.within in omega
      (arith, within, length-drop c.args.at c.args.bytes.now, c.requires));
}
