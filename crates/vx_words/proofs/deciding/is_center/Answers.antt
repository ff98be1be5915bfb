use Rattle.std.proofs.Common.{rules}
use Rattle.vx_words.proofs.Centers.{decided, no_device, no_moment}
use Rattle.vx_words.proofs.deciding.is_center.Goals as goal

pub returns-then-not-is_moment : goal.returns-then-not-is_moment
returns-then-not-is_moment c = no_moment c.args.words.now c.requires.first c.word.result.now c.word.ensures (search rules)

pub returns-then-not-is_device : goal.returns-then-not-is_device
returns-then-not-is_device c = no_device c.args.words.now c.requires.first c.word-2.result.now c.word-2.ensures (search rules)

pub returns : goal.returns
returns c = decided c.args.words.now c.word.result.now c.word-2.result.now c.requires c.word.ensures c.word-2.ensures (search rules) (search rules) c.are_items.result c.are_items.ensures.0 c.are_items.ensures.1
