use Rattle.std.proofs.Common.{◌∙◌, ap, sym, []}
use Rattle.std.specs.Prelude.{if◌then◌else◌}
use Rattle.vx_audit.specs.Hand.{is_dash, words_of}
use Rattle.vx_audit.proofs.Blanks.{dash-alone}
use Rattle.vx_audit.proofs.words.Words.are_dash.Goals as goal

pub returns-then-not-self : goal.returns-then-not-self
returns-then-not-self c =
    let text = c.self.inside.text.now in
    c.eq.ensures ∙ dash-alone text
    ∙ ap is_dash (ap (λ ended. if ended then [] else words_of text) (sym c.if-not-self.true) ∙ c.self.view_is)
