-- Whether bytes are UTF-8 decides whether they are looked at as JSON.
use Rattle.std.proofs.Common.{◌≡◌, ℕ, Bool, true, false, cond, List, Some, Result, Ok, Err, refl}
use Rattle.std.specs.Prelude.{ok_or}
use Rattle.std.specs.Str.{IsUtf8, is_utf8}
use Rattle.std.proofs.lemmas.Str.{IsUtf8-from_is_utf8, is_utf8-from_IsUtf8}
use Rattle.serde_json.specs.Data.{Data}
use Rattle.serde_json.specs.Read.{read}
use Rattle.vx_ranked.specs.declared.fault.RankedFault.{RankedFault}
use Rattle.vx_ranked.specs.declared.fault.RankedFault.TheVariants.{NotJson}
use Rattle.vx_ranked.specs.Reading.{value_in}

pub value_in-read : (bytes : List ℕ) (value : Data) → IsUtf8 bytes → read bytes ≡ Some value → value_in bytes ≡ Ok value
unfolding value_in
value_in-read bytes value utf8 e = rw (is_utf8-from_IsUtf8 bytes utf8, e) refl

not_text : (b : Bool) (r : Result Data RankedFault) → (b ≡ true → ⊥) → cond b r (Err NotJson) ≡ Err NotJson
not_text true r h = absurd (h refl)
not_text false r h = refl

pub value_in-no_text : (bytes : List ℕ) → (IsUtf8 bytes → ⊥) → value_in bytes ≡ Err NotJson
unfolding value_in
value_in-no_text bytes not_utf8 = not_text (is_utf8 bytes) (ok_or (read bytes) NotJson) (λ e. not_utf8 (IsUtf8-from_is_utf8 bytes e))
