use Rattle.std.proofs.Common.{◌≡◌, ◌++◌, ◌∷◌, drop, flat_map, decimal, string_bytes}
use Rattle.vx_records.proofs.encoding.push_further.Given as goal

-- the text so far and the options that are left
abbrev pub invariant-loop-option : goal.invariant-loop-option
invariant-loop-option l =
    string_bytes l.text ++ flat_map (λ other. 44 ∷ decimal other) (drop l.option-index l.options)
    ≡ string_bytes l.initial.text ++ flat_map (λ other. 44 ∷ decimal other) l.options
