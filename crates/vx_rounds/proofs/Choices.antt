-- A ballot's choice, found place by place.
use Rattle.std.proofs.Common.{◌≡◌, ℕ, zero, suc, ◌+◌, ◌≤◌, Bool, true, false, cond, List, [], ◌∷◌, length, take, refl, ap, sym, ◌∙◌, arith, add-one}
use Rattle.std.specs.Prelude.{find, slice_get, Option, Some, None}
use Rattle.std.proofs.lemmas.Option.{same_Some}
use Rattle.vx_base.proofs.Booleans.{chosen-none}

-- what isn't chosen, and nothing further on
skipped : (b : Bool) (x : ℕ) (rest : Option ℕ) → b ≡ false → rest ≡ None → cond b (Some x) rest ≡ None
skipped true x rest h none = absurd cc
skipped false x rest h none = none

-- one place more that names no one who stands
pub passed-suc : (stands : ℕ → Bool) (r : List ℕ) (place c : ℕ) → find stands (take place r) ≡ None → slice_get r place ≡ Some c → stands c ≡ false →
    find stands (take (suc place) r) ≡ None
passed-suc stands [] place c none at out = absurd cc
passed-suc stands (x ∷ xs) zero c none at out = skipped (stands x) x None (ap stands (same_Some x c at) ∙ out) refl
passed-suc stands (x ∷ xs) (suc n) c none at out =
    let h = chosen-none (stands x) x (find stands (take n xs)) none in
    skipped (stands x) x (find stands (take (suc n) xs)) h.0 (passed-suc stands xs n c h.1 at out)

pub passed-more : (stands : ℕ → Bool) (r : List ℕ) (place c : ℕ) → find stands (take place r) ≡ None → slice_get r place ≡ Some c → stands c ≡ false →
    find stands (take (place + 1) r) ≡ None
passed-more stands r place c none at out = rw add-one (passed-suc stands r place c none at out)

-- what is chosen, or what is behind it
behind : (b : Bool) (x : ℕ) (rest found : Option ℕ) → b ≡ false → rest ≡ found → cond b (Some x) rest ≡ found
behind true x rest found h is = absurd cc
behind false x rest found h is = is

chosen : (b : Bool) (x : ℕ) (rest : Option ℕ) → b ≡ true → cond b (Some x) rest ≡ Some x
chosen true x rest h = refl
chosen false x rest h = absurd cc

-- the first place that names one who stands
pub found-at : (stands : ℕ → Bool) (r : List ℕ) (place c : ℕ) → find stands (take place r) ≡ None → slice_get r place ≡ Some c → stands c ≡ true →
    find stands r ≡ Some c
found-at stands [] place c none at is = absurd cc
found-at stands (x ∷ xs) zero c none at is =
    let same = same_Some x c at in
    chosen (stands x) x (find stands xs) (ap stands same ∙ is) ∙ ap (λ (n : ℕ). Some n) same
found-at stands (x ∷ xs) (suc n) c none at is =
    let h = chosen-none (stands x) x (find stands (take n xs)) none in
    behind (stands x) x (find stands xs) (Some c) h.0 (found-at stands xs n c h.1 at is)

-- a place past the end
pub past-end : (r : List ℕ) (place : ℕ) → slice_get r place ≡ None → length r ≤ place
past-end [] place at = omega arith
past-end (x ∷ xs) zero at = absurd cc
past-end (x ∷ xs) (suc n) at = omega (arith, past-end xs n at)

-- no place names one who stands
pub found-none : (stands : ℕ → Bool) (r : List ℕ) (place : ℕ) → find stands (take place r) ≡ None → slice_get r place ≡ None → find stands r ≡ None
found-none stands [] place none at = refl
found-none stands (x ∷ xs) zero none at = absurd cc
found-none stands (x ∷ xs) (suc n) none at =
    let h = chosen-none (stands x) x (find stands (take n xs)) none in
    skipped (stands x) x (find stands xs) h.0 (found-none stands xs n h.1 at)

-- what is found stands
found_or : (stands : ℕ → Bool) (x c : ℕ) (rest : Option ℕ) (b : Bool) → stands x ≡ b → (rest ≡ Some c → stands c ≡ true) → cond b (Some x) rest ≡ Some c →
    stands c ≡ true
found_or stands x c rest true e later h = ap stands (sym (same_Some x c h)) ∙ e
found_or stands x c rest false e later h = later h

pub found-stands : (stands : ℕ → Bool) (r : List ℕ) (c : ℕ) → find stands r ≡ Some c → stands c ≡ true
found-stands stands [] c is = absurd cc
found-stands stands (x ∷ xs) c is = found_or stands x c (find stands xs) (stands x) refl (found-stands stands xs c) is
