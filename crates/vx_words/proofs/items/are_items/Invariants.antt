use Rattle.std.proofs.Common.{◌-◌, ◌≤◌, drop, take}
use Rattle.std.specs.Prelude.{All}
use Rattle.vx_words.specs.Items.{IsItemWord}
use Rattle.vx_words.proofs.items.are_items.Given as goal

-- the words from there on and before the index name items
abbrev pub invariant-loop-index : goal.invariant-loop-index
invariant-loop-index l = All IsItemWord (take (l.index - l.from) (drop l.from l.words)) × (l.from ≤ l.index)
