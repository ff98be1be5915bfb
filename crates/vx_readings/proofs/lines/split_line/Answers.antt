use Rattle.std.proofs.Common.{◌≡◌, ◌<◌, ◌+◌, ◌-◌, ◌∷◌, [], ℕ, List, length, drop, take, ap, ◌∙◌, arith, add-one, le_refl, sym, refl}
use Rattle.std.proofs.lemmas.Slice.{between_to_end}
use Rattle.std.proofs.lemmas.List.{drop_all}
use Rattle.vx_readings.specs.Parts.{lines_of}
use Rattle.vx_readings.proofs.Parts.{lines_of-none, lines_of-first, lines_of-empty}
use Rattle.vx_readings.proofs.lines.split_line.Goals as goal

pub returns-in-Some-clause-lines : goal.returns-in-Some-clause-lines
returns-in-Some-clause-lines c =
    let text = c.args.text.now in
    let place = c.in-Some.place in
    let small : place < length text = c.in-Some.ensures.0.high in
    lines_of-first place text small (λ k less. c.in-Some.ensures.0.before k (omega arith) less) c.in-Some.ensures.1
    ∙ ap (λ (rest : List ℕ). take place text ∷ lines_of rest)
    (ap (λ (n : ℕ). drop n text) (sym (add-one place)) ∙ sym (between_to_end text (place + 1) (length text) (le_refl (length text))))

pub returns-in-None-clause-lines : goal.returns-in-None-clause-lines
returns-in-None-clause-lines c =
    let text = c.args.text.now in
    let rest : take (length text - length text) (drop (length text) text) ≡ [] =
    between_to_end text (length text) (length text) (le_refl (length text)) ∙ drop_all (length text) text (le_refl (length text)) in
    lines_of-none text c.requires (λ k less. c.in-None.ensures k (omega arith) less)
    ∙ ap (λ (lines : List (List ℕ)). text ∷ lines) (sym (ap lines_of rest ∙ lines_of-empty [] refl))
