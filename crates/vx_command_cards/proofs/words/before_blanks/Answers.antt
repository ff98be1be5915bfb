use Rattle.std.proofs.Common.{rules}
use Rattle.vx_command_cards.specs.Drawn.{is_blank}
use Rattle.vx_command_cards.proofs.Worded.{before-here, before-none}
use Rattle.vx_command_cards.proofs.words.before_blanks.Goals as goal

pub returns-in-Some : goal.returns-in-Some
returns-in-Some c = before-here is_blank c.args.characters.now c.in-Some.place (search rules) (search rules) (search rules)

pub returns-in-None : goal.returns-in-None
returns-in-None c = before-none is_blank c.args.characters.now (search rules)
