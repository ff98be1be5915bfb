use Rattle.std.proofs.Common.{◌≡◌, ◌++◌, ◌≤◌, drop, map}
use Rattle.std.specs.Prelude.{All}
use Rattle.vx_words.specs.Items.{IsItem, item_word}
use Rattle.vx_words.proofs.items.items_from.Given as goal

-- the items so far, and the words that are left
abbrev pub invariant-loop-index : goal.invariant-loop-index
invariant-loop-index l = record {
  moved : map item_word l.items ++ drop l.index (map (λ word. word.now) l.words) ≡ drop l.from (map (λ word. word.now) l.words);
  are_items : All IsItem l.items;
  behind : l.from ≤ l.index;
}
