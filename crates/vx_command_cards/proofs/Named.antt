-- Characters of names as they are told.
use Rattle.std.proofs.Common.{◌≡◌, ◌∷◌, [], ℕ, true, false, refl}
use Rattle.std.specs.Prelude.{encode_utf8}
use Rattle.std.specs.Char.{is_ascii_control}
use Rattle.vx_base.proofs.Numbers.{equal-yes, equal-no}
use Rattle.vx_command_cards.specs.Cards.{code_word, told_character}

pub told-backslash : (c : ℕ) → c ≡ 92 → told_character c ≡ 92 ∷ 92 ∷ []
unfolding told_character
told-backslash c is = rw (equal-yes c 92 is) refl

pub told-control : (c : ℕ) → (c ≡ 92 → ⊥) → is_ascii_control c ≡ true → told_character c ≡ code_word c
unfolding told_character
told-control c other control = rw (equal-no c 92 other, control) refl

pub told-plain : (c : ℕ) → (c ≡ 92 → ⊥) → is_ascii_control c ≡ false → told_character c ≡ encode_utf8 c
unfolding told_character
told-plain c other plain = rw (equal-no c 92 other, plain) refl
