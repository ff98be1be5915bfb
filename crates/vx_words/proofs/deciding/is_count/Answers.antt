use Rattle.std.proofs.Common.{arith, rules}
use Rattle.vx_words.proofs.Spellings.{count_spelled, no_workers}
use Rattle.vx_words.proofs.deciding.is_count.Goals as goal

pub returns-then-workers-eq0 : goal.returns-then-workers-eq0
returns-then-workers-eq0 c = no_workers c.args.words.now c.word-2.result.now c.in-Some.workers c.requires.first c.word-2.ensures c.in-Some.ensures.1 (search rules)

pub returns : goal.returns
returns c = (_, count_spelled c.args.words.now c.word.result.now c.word-2.result.now c.in-Some.workers c.requires c.word.ensures c.word-2.ensures (search rules) (omega arith) c.in-Some.ensures.0 c.in-Some.ensures.1)
