use Rattle.std.proofs.Common.{◌≡◌, ◌++◌, drop, flat_map, string_bytes}
use Rattle.vx_ranked.specs.Texts.{count_text}
use Rattle.vx_ranked.proofs.lines.push_counts.Given as goal

-- the text so far and the candidates that are left
abbrev pub invariant-loop-candidate : goal.invariant-loop-candidate
invariant-loop-candidate l =
    string_bytes l.text ++ flat_map (count_text l.choices) (drop l.candidate-index l.counts)
    ≡ string_bytes l.initial.text ++ flat_map (count_text l.choices) l.counts
