use Rattle.std.proofs.Common.{◌≡◌, ◌∷◌, [], ℕ, List, true, false, Option, Some, string_bytes, ap, subst, ◌∙◌}
use Rattle.std.specs.Prelude.{OnOk}
use Rattle.std.specs.Option.{option_map}
use Rattle.std.specs.Fmt.{AppendsText, option_append, styled_digits_output, padded_integral, format_spec}
use Rattle.vx_command_cards.specs.Lines.{hexadecimal}
use Rattle.vx_command_cards.proofs.Padded.{padded-is}
use Rattle.vx_command_cards.proofs.hollow.push_code.Goals as goal

pub returns : goal.returns
returns c =
    let shown : styled_digits_output c.in_radix.result c.laid_out.result ≡ Some (hexadecimal true c.args.point) =
    ap (λ s. styled_digits_output c.in_radix.result s) c.laid_out.ensures
    ∙ ap (option_map (padded_integral (format_spec 32 0 4 4 18446744073709551615) false [])) c.in_radix.ensures
    ∙ ap Some (padded-is true c.args.point) in
    subst
    (λ (o : Option (List ℕ)). OnOk c.write.result (AppendsText (string_bytes c.args.line.now) (string_bytes c.write.new.self) (option_append (Some (32 ∷ 85 ∷ 43 ∷ [])) o)))
    shown c.write.ensures.bytes
