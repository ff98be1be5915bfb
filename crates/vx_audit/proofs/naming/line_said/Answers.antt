use Rattle.std.proofs.Common.{◌≡◌, ◌∙◌, ap, sym, Bool, true, false, cond, refl, Option, None}
use Rattle.std.specs.Str.{is_utf8}
use Rattle.std.proofs.lemmas.Str.{IsUtf8-from_is_utf8, is_utf8-from_IsUtf8}
use Rattle.vx_audit.specs.declared.hand.HandLine.{HandLine}
use Rattle.vx_audit.specs.Finding.{ballot_in}
use Rattle.vx_audit.specs.Hand.{hand_in_line, hand_in_words, words_of}
use Rattle.vx_audit.proofs.naming.line_said.Goals as goal

no_text : (b : Bool) (said : Option HandLine) → (b ≡ true → ⊥) → None ≡ cond b said None
no_text true said no_utf8 = absurd (no_utf8 refl)
no_text false said no_utf8 = refl

pub returns-in_default : goal.returns-in_default
unfolding hand_in_line
returns-in_default c =
    no_text (is_utf8 c.args.line.now) (hand_in_words c.args.contests.now (ballot_in c.args.directory.now) (words_of c.args.line.now))
    (λ e. c.in_default.ensures.cases.0 (IsUtf8-from_is_utf8 c.args.line.now e))

pub returns : goal.returns
unfolding hand_in_line
returns c =
    let text = c.in-Ok.ensures.cases in
    c.in_ok-found.ensures ∙ ap (hand_in_words c.args.contests.now (ballot_in c.args.directory.now)) (c.of.ensures ∙ ap words_of text.0)
    ∙ sym (ap (λ b. cond b (hand_in_words c.args.contests.now (ballot_in c.args.directory.now) (words_of c.args.line.now)) None) (is_utf8-from_IsUtf8 c.args.line.now text.1))
