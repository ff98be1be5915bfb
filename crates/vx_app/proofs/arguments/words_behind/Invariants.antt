use Rattle.std.proofs.Common.{◌≡◌, ◌+◌, ◌++◌, drop, map, length, string_bytes}
use Rattle.vx_app.proofs.arguments.words_behind.Given as goal

abbrev pub invariant-loop-index : goal.invariant-loop-index
invariant-loop-index l = record {
  moved : l.words ++ drop l.index (map (λ text. string_bytes text) l.arguments) ≡ drop 2 (map (λ text. string_bytes text) l.arguments);
  count : length l.words + 2 ≡ l.index;
}
