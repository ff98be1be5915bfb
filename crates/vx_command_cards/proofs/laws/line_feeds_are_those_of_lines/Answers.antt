use Rattle.vx_command_cards.proofs.Feeds.{feeds-are-lines}
use Rattle.vx_command_cards.proofs.laws.line_feeds_are_those_of_lines.Goals as goal

pub returns : goal.returns
returns c election valid = feeds-are-lines election valid
