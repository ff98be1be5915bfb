use Rattle.std.proofs.Common.{arith, rules}
use Rattle.vx_words.proofs.Spellings.{has_name}
use Rattle.vx_words.proofs.deciding.called.Goals as goal

pub returns-then-are_arguments : goal.returns-then-are_arguments
returns-then-are_arguments c =
    has_name c.args.words.now c.word.result.now c.in_ok-name.name c.word.ensures (search rules) (omega arith) (omega arith) (search rules)
