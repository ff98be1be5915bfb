use Rattle.std.proofs.Common.{◌∷◌, ◌+◌, List, ℕ, sym, ap, ◌∙◌, ◌-◌, take, drop, length, length-drop, arith}
use Rattle.std.proofs.lemmas.List.{take_all}
use Rattle.std.specs.Prelude.{◌==◌}
use Rattle.vx_script.specs.Script.{lines_of}
use Rattle.vx_script.proofs.Split.{one_piece, cut_at}
use Rattle.vx_script.proofs.lines.first_line.Goals as goal

pub returns-in-None-clause-lines : goal.returns-in-None-clause-lines
returns-in-None-clause-lines c = one_piece (λ b. b == 10) 0 c.args.text.now (sym c.in-None.ensures.place)

pub returns-in-Some-clause-lines : goal.returns-in-Some-clause-lines
returns-in-Some-clause-lines c =
    cut_at (λ b. b == 10) c.args.text.now c.in-Some.at 0 c.in-Some.ensures.place
    ∙ ap (λ (rest : List ℕ). take c.in-Some.at c.args.text.now ∷ lines_of rest) (sym (take_all (length c.args.text.now - (c.in-Some.at + 1)) (drop (c.in-Some.at + 1) c.args.text.now) (omega (arith, length-drop (c.in-Some.at + 1) c.args.text.now))))
