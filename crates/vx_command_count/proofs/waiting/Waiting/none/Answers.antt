use Rattle.std.proofs.Common.{ap, ◌∙◌}
use Rattle.vx_command_count.proofs.Waits.{first_of, none-first}
use Rattle.vx_command_count.proofs.waiting.Waiting.none.Goals as goal

pub returns : goal.returns
returns c = ap first_of c.new.ensures ∙ none-first
