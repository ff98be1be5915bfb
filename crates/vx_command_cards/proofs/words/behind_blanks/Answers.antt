use Rattle.std.proofs.Common.{rules, ◌+◌, ◌-◌, length, drop, ◌∙◌, arith, length-drop}
use Rattle.std.proofs.lemmas.List.{take_all}
use Rattle.vx_command_cards.specs.Drawn.{is_blank}
use Rattle.vx_command_cards.proofs.Worded.{behind-last, behind-none}
use Rattle.vx_command_cards.proofs.words.behind_blanks.Goals as goal

pub returns-in-Some : goal.returns-in-Some
returns-in-Some c =
    let cs = c.args.characters.now in
    let from = c.in-Some.place + 1 in
    take_all (length cs - from) (drop from cs) (omega (arith, length-drop from cs))
    ∙ behind-last is_blank cs c.in-Some.place (search rules) (search rules) (search rules)

pub returns-in-None : goal.returns-in-None
returns-in-None c = behind-none is_blank c.args.characters.now (search rules)
