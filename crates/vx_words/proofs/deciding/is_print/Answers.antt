use Rattle.vx_words.proofs.Spellings.{print_spelled}
use Rattle.vx_words.proofs.deciding.is_print.Goals as goal

pub returns : goal.returns
returns c = (_, print_spelled c.args.words.now _ _ _ _ _ c.requires c.word.ensures c.word-2.ensures c.in-Some.ensures.0 c.in-Some.ensures.1 c.in-Some-kind_and_test.ensures.0 c.in-Some-kind_and_test.ensures.1)
