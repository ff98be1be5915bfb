use Rattle.std.proofs.Common.{◌≡◌, map}
use Rattle.std.specs.Prelude.{◌%◌}
use Rattle.std.specs.List.{range_with_len}
use Rattle.vx_audit.specs.Sample.{at_word, word_of}
use Rattle.vx_audit.proofs.sample.drawn_places.Given as goal

abbrev pub invariant-loop-index : goal.invariant-loop-index
invariant-loop-index l = record {
  words : l.words ≡ at_word l.seed l.index;
  drawn : l.places ≡ map (λ word. word_of l.seed word % l.count) (range_with_len 0 l.index);
}
