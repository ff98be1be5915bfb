use Rattle.std.proofs.Common.{◌++◌, ℕ, List, string_bytes, ap, sym, ◌∙◌}
use Rattle.vx_command_cards.proofs.Named.{told-backslash, told-control, told-plain}
use Rattle.vx_command_cards.proofs.names.push_character.Goals as goal

pub returns-then-c-eq92 : goal.returns-then-c-eq92
returns-then-c-eq92 c =
    c.in_ok-push_str.ensures.bytes
    ∙ ap (λ (told : List ℕ). string_bytes c.args.line.now ++ told) (sym (told-backslash c.args.c c.if-c-eq92.true))

pub returns-then-is_ascii_control : goal.returns-then-is_ascii_control
returns-then-is_ascii_control c =
    c.in_ok-push_code.ensures
    ∙ ap (λ (told : List ℕ). string_bytes c.args.line.now ++ told) (sym (told-control c.args.c c.if-c-eq92.false (sym c.is_ascii_control.ensures.value ∙ c.if-is_ascii_control.true)))

pub returns : goal.returns
returns c =
    c.in_ok-push.ensures.bytes
    ∙ ap (λ (told : List ℕ). string_bytes c.args.line.now ++ told) (sym (told-plain c.args.c c.if-c-eq92.false (sym c.is_ascii_control.ensures.value ∙ c.if-is_ascii_control.false)))
