use Rattle.std.proofs.Common.{sym, ap, ◌∙◌}
use Rattle.std.specs.Str.{is_utf8}
use Rattle.std.proofs.lemmas.Bool.{false_from_ne_true}
use Rattle.std.proofs.lemmas.Str.{IsUtf8-from_is_utf8, is_utf8-from_IsUtf8}
use Rattle.vx_script.specs.Script.{said_in, words_of}
use Rattle.vx_script.proofs.Worded.{event_is, no_text}
use Rattle.vx_script.proofs.events.event_of.Goals as goal

pub returns-in_default-clause-exact : goal.returns-in_default-clause-exact
returns-in_default-clause-exact c =
    no_text c.args.election.now c.args.line.now (false_from_ne_true (is_utf8 c.args.line.now) (λ text. c.in_default.ensures.cases.0 (IsUtf8-from_is_utf8 c.args.line.now text)))

pub returns-then-fits-clause-exact : goal.returns-then-fits-clause-exact
returns-then-fits-clause-exact c =
    event_is c.args.election.now c.args.line.now c.in-Some.event (is_utf8-from_IsUtf8 c.args.line.now c.in-Ok.ensures.cases.1)
    (ap (said_in c.args.election.now) (ap words_of (sym c.in-Ok.ensures.cases.0) ∙ sym c.of.ensures) ∙ sym c.in_ok-said.ensures ∙ c.in-Some.is)
    (sym c.if-fits.ensures.exact)
