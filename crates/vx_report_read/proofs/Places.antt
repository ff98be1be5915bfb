-- Places of ids in lists of ids that are all different.
use Rattle.std.proofs.Common.{◌≡◌, ℕ, zero, suc, ◌+◌, Bool, false, cond, not, List, [], ◌∷◌, ◌++◌, length, map, refl, sym, ap, subst, ◌∙◌, arith}
use Rattle.std.specs.Prelude.{Some, None, slice_get, nat_lt, bytes_eq}
use Rattle.std.specs.List.{AllByRecursion, IsDistinct, position_or_len}
use Rattle.std.proofs.lemmas.Option.{same_Some, slice_get_within}
use Rattle.std.proofs.lemmas.Slice.Eq.{bytes_eq-Decides}
use Rattle.vx_base.proofs.Booleans.{is-false, not-both}
use Rattle.vx_base.proofs.Numbers.{below-yes, below-no}
use Rattle.vx_tally.specs.Ids.{place_in}

-- an id that is none of those
abbrev pub IsNew : List ℕ → List (List ℕ) → Type 0
IsNew id ids = AllByRecursion (λ (other : List ℕ). bytes_eq id other ≡ false) ids

pub bytes-other : (xs ys : List ℕ) → (xs ≡ ys → ⊥) → bytes_eq xs ys ≡ false
bytes-other xs ys other = is-false (bytes_eq xs ys) (λ e. other ((bytes_eq-Decides xs ys).0 e))

pub other-bytes : (xs ys : List ℕ) → bytes_eq xs ys ≡ false → xs ≡ ys → ⊥
other-bytes xs ys unlike e = not-both (bytes_eq xs ys) ((bytes_eq-Decides xs ys).1 e) unlike

-- the same the other way round
pub turned : (xs ys : List ℕ) → bytes_eq xs ys ≡ false → bytes_eq ys xs ≡ false
turned xs ys unlike = bytes-other ys xs (λ e. other-bytes xs ys unlike (sym e))

new-length : (id : List ℕ) (ids : List (List ℕ)) → IsNew id ids → position_or_len (bytes_eq id) ids ≡ length ids
new-length id [] new = refl
new-length id (other ∷ ids) new =
    ap (λ (b : Bool). cond (not b) (1 + position_or_len (bytes_eq id) ids) 0) new.0
    ∙ step (position_or_len (bytes_eq id) ids) (length ids) (new-length id ids new.1)
  where
    step : (m n : ℕ) → m ≡ n → 1 + m ≡ suc n
    step m n e = omega (arith, e)

pub new-place : (id : List ℕ) (ids : List (List ℕ)) → IsNew id ids → place_in id ids ≡ None
new-place id ids new =
    let n = length ids in
    ap (λ (m : ℕ). cond (nat_lt m n) (Some m) None) (new-length id ids new) ∙ ap (λ (b : Bool). cond b (Some n) None) (below-no n n (omega arith))

each-got : (P : List ℕ → Type 0) (ids : List (List ℕ)) (k : ℕ) (id : List ℕ) → AllByRecursion P ids → slice_get ids k ≡ Some id → P id
each-got P [] k id all there = absurd cc
each-got P (other ∷ ids) zero id all there = subst P (same_Some other id there) all.0
each-got P (other ∷ ids) (suc k) id all there = each-got P ids k id all.1 there

got-length : (ids : List (List ℕ)) (k : ℕ) (id : List ℕ) → IsDistinct bytes_eq ids → slice_get ids k ≡ Some id → position_or_len (bytes_eq id) ids ≡ k
unfolding IsDistinct
got-length [] k id distinct there = absurd cc
got-length (other ∷ ids) zero id distinct there =
    ap (λ (b : Bool). cond (not b) (1 + position_or_len (bytes_eq id) ids) 0) ((bytes_eq-Decides id other).1 (sym (same_Some other id there)))
got-length (other ∷ ids) (suc k) id distinct there =
    let unlike : bytes_eq id other ≡ false = turned other id (each-got (λ (one : List ℕ). bytes_eq other one ≡ false) ids k id distinct.0 there) in
    ap (λ (b : Bool). cond (not b) (1 + position_or_len (bytes_eq id) ids) 0) unlike
    ∙ step (position_or_len (bytes_eq id) ids) k (got-length ids k id distinct.1 there)
  where
    step : (m n : ℕ) → m ≡ n → 1 + m ≡ suc n
    step m n e = omega (arith, e)

pub got-place : (ids : List (List ℕ)) (k : ℕ) (id : List ℕ) → IsDistinct bytes_eq ids → slice_get ids k ≡ Some id → place_in id ids ≡ Some k
got-place ids k id distinct there =
    ap (λ (m : ℕ). cond (nat_lt m (length ids)) (Some m) None) (got-length ids k id distinct there)
    ∙ ap (λ (b : Bool). cond b (Some k) None) (below-yes k (length ids) (slice_get_within ids k id there))

module _ {X : Type 0} where
  -- what holds at a seam
  pub each-seam : (P : X → Type 0) (before : List X) (x : X) (back : List X) → AllByRecursion P (before ++ x ∷ back) → P x
  each-seam P [] x back all = all.0
  each-seam P (y ∷ before) x back all = each-seam P before x back all.1

  pub each-front : (P : X → Type 0) (before back : List X) → AllByRecursion P (before ++ back) → AllByRecursion P before
  each-front P [] back all = tt
  each-front P (y ∷ before) back all = (all.0, each-front P before back all.1)

  named-seam : (P : List ℕ → Type 0) (name : X → List ℕ) (before : List X) (x : X) (back : List X) → AllByRecursion P (map name (before ++ x ∷ back))
      → P (name x)
  named-seam P name [] x back all = all.0
  named-seam P name (y ∷ before) x back all = named-seam P name before x back all.1

  -- the name of an element is none of those before it
  pub new-name : (name : X → List ℕ) (before : List X) (x : X) (back : List X) → IsDistinct bytes_eq (map name (before ++ x ∷ back))
      → IsNew (name x) (map name before)
  unfolding IsDistinct
  new-name name [] x back distinct = tt
  new-name name (y ∷ before) x back distinct = (
    turned (name y) (name x) (named-seam (λ (one : List ℕ). bytes_eq (name y) one ≡ false) name before x back distinct.0),
    new-name name before x back
        distinct.1,
  )

  -- names that tell apart what others tell apart
  others-told : (name other : X → List ℕ) → ((x y : X) → other x ≡ other y → name x ≡ name y) → (x : X) (ys : List X)
      → AllByRecursion (λ (one : List ℕ). bytes_eq (name x) one ≡ false) (map name ys)
      → AllByRecursion (λ (one : List ℕ). bytes_eq (other x) one ≡ false) (map other ys)
  others-told name other tells x [] all = tt
  others-told name other tells x (y ∷ ys) all =
      (bytes-other (other x) (other y) (λ e. other-bytes (name x) (name y) all.0 (tells x y e)), others-told name other tells x ys all.1)

  pub told-apart : (name other : X → List ℕ) → ((x y : X) → other x ≡ other y → name x ≡ name y) → (xs : List X)
      → IsDistinct bytes_eq (map name xs) → IsDistinct bytes_eq (map other xs)
  unfolding IsDistinct
  told-apart name other tells [] distinct = tt
  told-apart name other tells (x ∷ xs) distinct = (others-told name other tells x xs distinct.0, told-apart name other tells xs distinct.1)
