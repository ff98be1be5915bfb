use Rattle.std.proofs.Common.{List, ℕ, map, arith}
use Rattle.std.proofs.lemmas.List.Elements.{All-push}
use Rattle.std.proofs.lemmas.Result.{err_from_is_err_and}
use Rattle.vx_words.specs.Items.{IsItem}
use Rattle.vx_words.proofs.ItemWords.{one_item, stray}
use Rattle.vx_words.proofs.Made.{nowhere}
use Rattle.vx_words.proofs.Moving.{got}
use Rattle.vx_words.proofs.items.items_from.Goals as goal

pub returns-in_err-item_of : goal.returns-in_err-item_of
returns-in_err-item_of c =
    let err = err_from_is_err_and c.from_residual.result c.from_residual.ensures.1 in
    let words : List (List ℕ) = map (λ word. word.now) c.args.words.now in
    rw err.1
    (stray words c.args.from c.loop-index.index _ c.in_err-item_of.field-0.0 err.0 c.loop-index.invariant.behind
    (got c.args.words.now c.loop-index.index nowhere (omega (arith, c.loop-index-test.true))) err.2 c.in_err-item_of.ensures)

pub loop-index-preserved : goal.loop-index-preserved
loop-index-preserved c =
    let words : List (List ℕ) = map (λ word. word.now) c.args.words.now in
    rw c.in_ok-push.ensures
    (record {
      moved = one_item c.loop-index.items c.in_ok-item_of.field-0 words _ c.loop-index.index _
          (got c.args.words.now c.loop-index.index nowhere (omega (arith, c.loop-index-test.true))) c.in_ok-item_of.ensures.0 c.loop-index.invariant.moved;
      are_items = All-push IsItem c.loop-index.items c.in_ok-item_of.field-0 c.loop-index.invariant.are_items c.in_ok-item_of.ensures.1;
      behind = omega (arith, c.loop-index.invariant.behind);
    })
