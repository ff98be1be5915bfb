use Rattle.std.proofs.Common.{◌≡◌, false, rules, refl, ap, ◌∙◌}
use Rattle.serde_json.specs.View.{view}
use Rattle.serde_json.specs.Written.{compact_text, has_float}
use Rattle.vx_command_demo.specs.Election.{demo_text, demo_election}
use Rattle.vx_command_demo.proofs.election.demo_text.Goals as goal

floatless : has_float demo_election ≡ false
floatless = refl

pub returns : goal.returns
unfolding demo_text
returns c =
    let none : has_float (view c.in_ok-value.value) ≡ false = ap has_float c.in_ok-value.ensures ∙ floatless in
    let text : c.in_ok-to_vec.field-0.items ≡ compact_text (view c.in_ok-value.value) = c.in_ok-to_vec.ensures.text none in
    let whole : c.from_vec.result ≡ c.in_ok-to_vec.field-0.items = search rules in
    whole ∙ (text ∙ ap compact_text c.in_ok-value.ensures)
