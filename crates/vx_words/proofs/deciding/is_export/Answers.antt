use Rattle.std.proofs.Common.{rules}
use Rattle.vx_words.proofs.Spellings.{export_spelled, no_device, some_device}
use Rattle.vx_words.proofs.deciding.is_export.Goals as goal

pub returns-then-not-is_device : goal.returns-then-not-is_device
returns-then-not-is_device c = no_device c.args.words.now c.word-2.result.now c.requires c.word-2.ensures (search rules)

pub returns : goal.returns
returns c =
    let known = some_device c.word-2.result.now (search rules) in
    (_, export_spelled c.args.words.now c.word.result.now c.word-2.result.now known.0 c.requires c.word.ensures c.word-2.ensures (search rules) known.1)
