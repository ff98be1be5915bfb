use Rattle.std.proofs.Common.{◌≡◌, ◌<◌, ℕ, false, length, slice_index_or}
use Rattle.vx_audit.specs.Sample.{at_word, is_drawn}
use Rattle.vx_audit.proofs.sample.drawn_of.Given as goal

abbrev pub invariant-loop-index : goal.invariant-loop-index
invariant-loop-index l = record {
  sized : length l.drawn.items ≡ l.count;
  words : l.words ≡ at_word l.seed l.index;
  value : (place : ℕ) → place < l.count → slice_index_or l.drawn.items place false ≡ is_drawn l.seed l.index l.count place;
}
