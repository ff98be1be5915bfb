use Rattle.std.proofs.Common.{◌∙◌, sym}
use Rattle.vx_center.proofs.Numbered.{decided-any}
use Rattle.vx_center.proofs.counting.is_decided.Goals as goal

pub returns : goal.returns
returns c = c.names_contest.ensures ∙ sym (decided-any c.args.contest c.args.decided.now)
