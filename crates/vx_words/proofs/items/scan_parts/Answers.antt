use Rattle.std.proofs.Common.{◌≡◌, ◌<◌, true, Some, None, ℕ, List, length, rules, sym, ap, subst, ◌∙◌}
use Rattle.vx_events.specs.Fits.{is_batch}
use Rattle.vx_words.proofs.ItemWords.{scan_cut}
use Rattle.vx_words.proofs.items.scan_parts.Goals as goal

pub returns-in_err-batch : goal.returns-in_err-batch
returns-in_err-batch c =
    let found = c.in_ok-rest.ensures.cases in
    rw c.from_residual-in_err-batch.ensures
    (λ batch name is word_is. scan_cut c.args.word.now c.in_ok-rest.rest.now batch name found.0 c.split_once.result None found.1.0 found.2 c.split_once.ensures.cases c.in_err-batch.was is word_is)

pub returns-then-not-is_batch : goal.returns-then-not-is_batch
returns-then-not-is_batch c batch name is word_is =
    let found = c.in_ok-rest.ensures.cases in
    let parts = scan_cut c.args.word.now c.in_ok-rest.rest.now batch name found.0 c.split_once.result (Some (c.in_ok-batch.batch, c.in_ok-batch.name)) found.1.0 found.2 c.split_once.ensures.cases c.in_ok-batch.was is word_is in
    let good : is_batch c.in_ok-batch.batch.now ≡ true = ap is_batch parts.0 ∙ is.0 in
    search rules

pub returns-then-is_empty : goal.returns-then-is_empty
returns-then-is_empty c batch name is word_is =
    let found = c.in_ok-rest.ensures.cases in
    let parts = scan_cut c.args.word.now c.in_ok-rest.rest.now batch name found.0 c.split_once.result (Some (c.in_ok-batch.batch, c.in_ok-batch.name)) found.1.0 found.2 c.split_once.ensures.cases c.in_ok-batch.was is word_is in
    let some : 0 < length c.in_ok-batch.name.now = subst (λ (n : List ℕ). 0 < length n) (sym parts.1) is.1 in
    search rules
