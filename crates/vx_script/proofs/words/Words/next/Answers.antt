use Rattle.std.proofs.Common.{◌∙◌}
use Rattle.vx_script.proofs.Worded.{are_words, last_word, next_word}
use Rattle.vx_script.proofs.words.Words.next.Goals as goal

pub returns-in-None : goal.returns-in-None
returns-in-None c =
    are_words c.self.inside.ended c.self.inside.text.now c.args.self.now c.if-self.false c.self.view_is
    ∙ last_word c.self.inside.text.now c.in-None.ensures.cases

pub returns-in-Some : goal.returns-in-Some
returns-in-Some c =
    rw c.if-self.false
    (are_words c.self.inside.ended c.self.inside.text.now c.args.self.now c.if-self.false c.self.view_is
    ∙ next_word c.self.inside.text.now c.in-Some.word c.in-Some.behind c.in-Some.ensures.cases)
