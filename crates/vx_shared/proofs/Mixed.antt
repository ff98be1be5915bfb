-- Lists of events that a history interleaves: what comes of them.
use Rattle.std.proofs.Common.{◌≡◌, ℕ, zero, suc, ◌+◌, ◌≤◌, Bool, true, false, List, [], ◌∷◌, length, refl, sym, ap, ◌∙◌, arith}
use Rattle.std.specs.Prelude.{◌==◌, Some, slice_get, slice_set}
use Rattle.std.proofs.lemmas.Option.{get_or_from_slice_get, same_Some, slice_get_within}
use Rattle.vx_base.proofs.Numbers.{equal-from_yes, equal-yes}
use Rattle.vx_events.specs.declared.event.Event.{Event}
use Rattle.vx_shared.specs.Interleaving.{Interleaving}
use Rattle.vx_shared.specs.Laws.{IsOfList, events_in_all}

set-here : {X : Type 0} (xs : List X) (n : ℕ) (x y : X) → slice_get xs n ≡ Some x → slice_get (slice_set xs n y) n ≡ Some y
set-here [] n x y h = absurd cc
set-here (z ∷ xs) zero x y h = refl
set-here (z ∷ xs) (suc n) x y h = set-here xs n x y h

set-other : {X : Type 0} (xs : List X) (n m : ℕ) (y : X) → (m ≡ n → ⊥) → slice_get (slice_set xs n y) m ≡ slice_get xs m
set-other [] n m y other = refl
set-other (z ∷ xs) zero zero y other = absurd (other refl)
set-other (z ∷ xs) zero (suc m) y other = refl
set-other (z ∷ xs) (suc n) zero y other = refl
set-other (z ∷ xs) (suc n) (suc m) y other = set-other xs n m y (λ same. other (ap suc same))

apart : (m n : ℕ) → (m == n) ≡ false → m ≡ n → ⊥
apart m n not same = let yes = equal-yes m n same in cc

-- each event of each list comes
pub comes : (events : List Event) (lists : List (List Event)) → Interleaving lists events → (p : ℕ) (list : List Event) (m : ℕ) (event : Event)
    → slice_get lists p ≡ Some list → slice_get list m ≡ Some event → (q : ℕ) × (slice_get events q ≡ Some event)
comes [] lists mixed p list m event at on =
    let none : list ≡ [] = sym (get_or_from_slice_get lists p list list at) ∙ mixed p list (slice_get_within lists p list at) in
    let nothing = sym (ap (λ (some : List Event). slice_get some m) none) ∙ on in
    absurd cc
comes (first ∷ events) lists mixed p list m event at on =
    by (p == mixed.0) refl m on (λ p list m event at on. comes events (slice_set lists mixed.0 mixed.1) mixed.2.1 p list m event at on)
  where
    by : (b : Bool) → (p == mixed.0) ≡ b → (m : ℕ) → slice_get list m ≡ Some event
        → ((p : ℕ) (list : List Event) (m : ℕ) (event : Event) → slice_get (slice_set lists mixed.0 mixed.1) p ≡ Some list → slice_get list m ≡ Some event
        → (q : ℕ) × (slice_get events q ≡ Some event))
        → (q : ℕ) × (slice_get (first ∷ events) q ≡ Some event)
    by true is m on go =
        let same = equal-from_yes p mixed.0 is in
        let whole : list ≡ first ∷ mixed.1 = same_Some list (first ∷ mixed.1) (sym at ∙ ap (slice_get lists) same ∙ mixed.2.0) in
        head m (ap (λ (some : List Event). slice_get some m) (sym whole) ∙ on) go
      where
        head : (m : ℕ) → slice_get (first ∷ mixed.1) m ≡ Some event
            → ((p : ℕ) (list : List Event) (m : ℕ) (event : Event) → slice_get (slice_set lists mixed.0 mixed.1) p ≡ Some list
            → slice_get list m ≡ Some event → (q : ℕ) × (slice_get events q ≡ Some event))
            → (q : ℕ) × (slice_get (first ∷ events) q ≡ Some event)
        head zero on go = (0, on)
        head (suc m) on go =
            let rest = go mixed.0 mixed.1 m event (set-here lists mixed.0 (first ∷ mixed.1) mixed.1 mixed.2.0) on in
            (suc rest.0, rest.1)
    by false not m on go =
        let rest = go p list m event (set-other lists mixed.0 p mixed.1 (apart p mixed.0 not) ∙ at) on in
        (suc rest.0, rest.1)

-- and each that comes is of one of them
pub is-of : (events : List Event) (lists : List (List Event)) → Interleaving lists events → (q : ℕ) (event : Event) → slice_get events q ≡ Some event
    → IsOfList lists event
is-of [] lists mixed q event on = absurd cc
is-of (first ∷ events) lists mixed zero event on = record { place = mixed.0; list = first ∷ mixed.1; at = mixed.2.0; n = 0; on = on }
is-of (first ∷ events) lists mixed (suc q) event on = back (is-of events (slice_set lists mixed.0 mixed.1) mixed.2.1 q event on)
  where
    back : IsOfList (slice_set lists mixed.0 mixed.1) event → IsOfList lists event
    back it = by (it.place == mixed.0) refl
      where
        by : (b : Bool) → (it.place == mixed.0) ≡ b → IsOfList lists event
        by true is =
            let same = equal-from_yes it.place mixed.0 is in
            let whole : it.list ≡ mixed.1 =
            same_Some it.list mixed.1
            (sym it.at ∙ ap (slice_get (slice_set lists mixed.0 mixed.1)) same ∙ set-here lists mixed.0 (first ∷ mixed.1) mixed.1 mixed.2.0) in
            record {
              place = mixed.0;
              list = first ∷ mixed.1;
              at = mixed.2.0;
              n = suc it.n;
              on = ap (λ (some : List Event). slice_get some it.n) (sym whole) ∙ it.on;
            }
        by false not = record {
          place = it.place;
          list = it.list;
          at = sym (set-other lists mixed.0 it.place mixed.1 (apart it.place mixed.0 not)) ∙ it.at;
          n = it.n;
          on = it.on;
        }

-- there are as many
one-less : (lists : List (List Event)) (n : ℕ) (event : Event) (more : List Event) → slice_get lists n ≡ Some (event ∷ more)
    → suc (events_in_all (slice_set lists n more)) ≡ events_in_all lists
one-less [] n event more h = absurd cc
one-less (list ∷ lists) zero event more h =
    let size : length list ≡ suc (length more) = ap length (same_Some list (event ∷ more) h) in
    omega (arith, size)
one-less (list ∷ lists) (suc n) event more h = let rest = one-less lists n event more h in omega (arith, rest)

pub as-many : (events : List Event) (lists : List (List Event)) → Interleaving lists events → length events ≤ events_in_all lists
as-many [] lists mixed = omega arith
as-many (event ∷ events) lists mixed =
    let rest = as-many events (slice_set lists mixed.0 mixed.1) mixed.2.1 in
    let less = one-less lists mixed.0 event mixed.1 mixed.2.0 in
    omega (arith, rest, less)
