use Rattle.std.proofs.Common.{arith, rules}
use Rattle.vx_words.proofs.Spellings.{demo_spelled, no_sheets}
use Rattle.vx_words.proofs.deciding.is_demo.Goals as goal

pub returns-then-sheets-eq0 : goal.returns-then-sheets-eq0
returns-then-sheets-eq0 c = no_sheets c.args.words.now c.word-2.result.now c.in-Some-read_number.sheets c.requires.first c.word-2.ensures c.in-Some-read_number.ensures.1 (search rules)

pub returns : goal.returns
returns c = (_, demo_spelled c.args.words.now c.word.result.now c.word-2.result.now c.in-Some._seed c.in-Some-read_number.sheets c.requires c.word.ensures c.word-2.ensures c.in-Some.ensures.0 c.in-Some.ensures.1 (omega arith) c.in-Some-read_number.ensures.0 c.in-Some-read_number.ensures.1)
