use Rattle.vx_script.proofs.Worded.{are_read}
use Rattle.vx_script.proofs.words.Words.are_read.Goals as goal

pub returns : goal.returns
returns c = are_read c.self.inside.ended c.self.inside.text.now c.args.self.now c.self.view_is
