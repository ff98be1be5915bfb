-- Keys that are the same, and the names by which sheets are looked for.
use Rattle.std.proofs.Common.{◌≡◌, ◌≢◌, ℕ, ◌≤◌, Bool, true, false, List, [], ◌∷◌, length, take, refl, sym, ap, ap₂, subst, ◌∙◌, arith}
use Rattle.std.specs.Prelude.{◌&&◌, ◌==◌, bytes_eq}
use Rattle.std.proofs.lemmas.Slice.Eq.{bytes_eq-Decides}
use Rattle.vx_base.proofs.Booleans.{and-both, and-left, and-right}
use Rattle.vx_base.proofs.Numbers.{equal-yes, equal-from_yes}
use Rattle.vx_base.proofs.Lists.{take-front}
use Rattle.vx_events.specs.declared.key.Key.{Key}
use Rattle.vx_center.specs.Sheets.{same_key}
use Rattle.vx_center.specs.States.{padded, name_of_key}

-- a key is the same as itself
pub same-self : (key : Key) → same_key key key ≡ true
same-self key = and-both _ _ ((bytes_eq-Decides key.batch key.batch).1 refl) (equal-yes key.number key.number refl)

-- the same keys are equal
pub same-equal : (one other : Key) → same_key one other ≡ true → one ≡ other
same-equal one other h =
    let batch = (bytes_eq-Decides one.batch other.batch).0 (and-left _ _ h) in
    let number = equal-from_yes one.number other.number (and-right (bytes_eq one.batch other.batch) _ h) in
    ap₂ (λ (batch : List ℕ) (number : ℕ). record { batch = batch; number = number }) batch number

-- other keys aren't
pub other-apart : (one other : Key) → (one ≢ other) → same_key one other ≡ false
other-apart one other apart = by (same_key one other) refl
  where
    by : (b : Bool) → same_key one other ≡ b → same_key one other ≡ false
    by true e = absurd (apart (same-equal one other e))
    by false e = e

-- batches whose names are the same are equal
pub padded-equal : (one other : List ℕ) → padded one ≡ padded other → length one ≡ length other → one ≡ other
padded-equal one other h size =
    sym (take-front one _ (length one) refl) ∙ ap (λ bytes. take (length one) bytes) h ∙ take-front other _ (length one) (sym size)
