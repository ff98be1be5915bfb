use Rattle.std.proofs.Common.{rules}
use Rattle.vx_words.proofs.Spellings.{spelled_arguments}
use Rattle.vx_words.proofs.reading.read_words.Goals as goal

pub returns-then-not-are_arguments : goal.returns-then-not-are_arguments
returns-then-not-are_arguments c = λ command spelled.
    let said = c.are_arguments.ensures.1 (spelled_arguments c.args.words.now command spelled) in search rules
