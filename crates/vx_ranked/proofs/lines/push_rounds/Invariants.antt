use Rattle.std.proofs.Common.{◌≡◌, ◌+◌, ◌++◌, drop, string_bytes}
use Rattle.vx_ranked.specs.Texts.{round_lines}
use Rattle.vx_ranked.proofs.lines.push_rounds.Given as goal

-- the text so far and the rounds that are left
abbrev pub invariant-loop-index : goal.invariant-loop-index
invariant-loop-index l =
    string_bytes l.text ++ round_lines l.choices (l.index + 1) (drop l.index l.rounds)
    ≡ string_bytes l.initial.text ++ round_lines l.choices 1 l.rounds
