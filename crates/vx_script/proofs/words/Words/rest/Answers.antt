use Rattle.vx_script.proofs.Worded.{are_words, rest_of}
use Rattle.vx_script.proofs.words.Words.rest.Goals as goal

pub returns-else-self : goal.returns-else-self
returns-else-self c =
    rest_of c.self.inside.text.now c.args.self.now (are_words c.self.inside.ended c.self.inside.text.now c.args.self.now c.if-self.false c.self.view_is)
