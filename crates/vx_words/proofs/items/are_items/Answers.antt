use Rattle.std.proofs.Common.{arith, rules}
use Rattle.std.proofs.lemmas.Bool.{false≢true}
use Rattle.vx_words.specs.Items.{IsItemWord}
use Rattle.vx_words.proofs.Moving.{all_of_them, one_more, one_of_them}
use Rattle.vx_words.proofs.items.are_items.Goals as goal

pub loop-index-preserved : goal.loop-index-preserved
loop-index-preserved c = (one_more IsItemWord c.args.words.now c.args.from c.loop-index.index c.word.result.now c.loop-index.invariant.1 c.word.ensures c.loop-index.invariant.0 (c.is_item.ensures.0 c.if-not-is_item.false), omega (arith, c.loop-index.invariant.1))

pub returns : goal.returns
returns c = (λ is. all_of_them IsItemWord c.args.words.now c.args.from c.loop-index.index (omega arith) c.loop-index.invariant.0, λ are. search rules)

pub returns-then-not-is_item : goal.returns-then-not-is_item
returns-then-not-is_item c = (
  λ is. absurd (false≢true is),
  λ are.
      let good = one_of_them IsItemWord c.args.words.now c.args.from c.loop-index.index c.word.result.now c.loop-index.invariant.1 c.word.ensures are in
      let told = c.is_item.ensures.1 good in search rules,
)
