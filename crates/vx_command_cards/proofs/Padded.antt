-- What a number in hexadecimal with four digits at least is.
use Rattle.std.proofs.Common.{◌≡◌, ◌++◌, ◌-◌, [], ℕ, Bool, false, List, length, replicate, ap₂, append-nil, arith}
use Rattle.std.specs.Fmt.{padded_integral, format_spec, digits, char_count}
use Rattle.vx_command_cards.specs.Lines.{hexadecimal}

-- what `{:04X}` and `{:04x}` write
pub padded-is : (capital : Bool) (n : ℕ) → padded_integral (format_spec 32 0 4 4 18446744073709551615) false [] (digits 16 capital n) ≡ hexadecimal capital n
unfolding padded_integral char_count hexadecimal
padded-is capital n =
    let short : 4 - length (digits 16 capital n) - 0 - 0 ≡ 4 - length (digits 16 capital n) = omega arith in
    ap₂ (λ (pad : ℕ) (numeral : List ℕ). replicate pad 48 ++ numeral) short (append-nil (digits 16 capital n))
