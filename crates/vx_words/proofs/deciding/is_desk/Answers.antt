use Rattle.std.proofs.Common.{rules}
use Rattle.vx_words.proofs.Spellings.{desk_spelled}
use Rattle.vx_words.proofs.deciding.is_desk.Goals as goal

pub returns : goal.returns
returns c = (_, desk_spelled c.args.words.now c.word.result.now c.requires c.word.ensures (search rules))
