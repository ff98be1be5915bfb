use Rattle.std.proofs.Common.{◌++◌, ◌∙◌, ℕ, List, Ok, Vec, Global, string_bytes, sym, ap}
use Rattle.vx_command_cards.specs.Lines.{ended}
use Rattle.vx_command_cards.proofs.Told.{all-told}
use Rattle.vx_command_cards.proofs.telling.text_of.Goals as goal

pub returns-clause-exact : goal.returns-clause-exact
returns-clause-exact c =
    let told = c.in_ok-told.told in
    let lines = string_bytes told.cards.text ++ string_bytes told.hollow.text ++ string_bytes told.blank.text ++ string_bytes told.cut.text ++ string_bytes told.alike.text in
    ap Ok
    (sym
    (c.from_vec.ensures ∙ ap (λ (bytes : Vec ℕ Global). bytes.items) c.into_bytes.ensures.value ∙ c.in_ok-text.ensures
    ∙ ap (λ (last : List ℕ). lines ++ ended last) (c.as_str.ensures.value ∙ c.in_ok-sums.ensures)
    ∙ all-told c.args.election.now _ _ _ _ _ _ _ _ _ _ c.in_ok-told.ensures.cards c.in_ok-told.ensures.hollow c.in_ok-told.ensures.blank c.in_ok-told.ensures.cut c.in_ok-told.ensures.alike))
