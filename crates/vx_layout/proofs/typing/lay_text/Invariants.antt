use Rattle.std.proofs.Common.{◌≡◌, ◌++◌, ◌*◌, map, drop}
use Rattle.std.specs.List.{range_with_len}
use Rattle.std.specs.Str.{chars, encode_utf8_all}
use Rattle.vx_layout.specs.Lines.{placed_line}
use Rattle.vx_layout.proofs.typing.lay_text.Given as goal

-- the lines so far, and the characters that follow them
abbrev pub invariant-loop-k : goal.invariant-loop-k
invariant-loop-k l = record {
  lines : l.texts ≡ l.fn.texts ++ map (placed_line l.paper l.col l.row l.text) (range_with_len 0 l.k);
  rest : l.rest ≡ encode_utf8_all (drop (l.k * 29) (chars l.text));
}
