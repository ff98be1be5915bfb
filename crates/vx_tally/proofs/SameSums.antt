-- Which sum is which, and one that is changed.
use Rattle.std.proofs.Common.{◌≡◌, ℕ, ◌+◌, ◌-◌, ◌<◌, ◌≤◌, ◌&&◌, ◌==◌, Bool, true, false, cond, List, [], ◌∷◌, Option, Some, None, Result, Ok, Err, IsOk, OnErr, OnOk, refl, sym, ap, ap₂, subst, ◌∙◌, arith}
use Rattle.std.specs.Prelude.{sum_by}
use Rattle.std.specs.Option.{unwrap_or}
use Rattle.indexmap.specs.IndexMap.{IndexMap, get, spare}
use Rattle.vx_base.proofs.Booleans.{and-both, and-left, and-right, same-bool}
use Rattle.vx_base.proofs.Numbers.{equal-yes, equal-from_yes}
use Rattle.vx_tally.specs.declared.sums.Counted.{Counted}
use Rattle.vx_tally.specs.declared.sums.Counted.TheVariants.{Votes, VotesIn, Over, Under}
use Rattle.vx_tally.specs.declared.sums.Change.{Change}
use Rattle.vx_tally.specs.declared.sums.Change.TheVariants.{Raise, Lower}
use Rattle.vx_tally.specs.contracts.sums.CountedPartialEq.TheImpl.{eq-value}
use Rattle.std.specs.Map.{lookup}
use Rattle.vx_tally.specs.Sums.{Share, same_counted, changed_by, sum_of, sum_at, Allows, IsChanged}

-- the test that is derived for a map
abbrev pub derived : Counted → Counted → Bool
derived = eq-value.it

pub same-self : (key : Counted) → same_counted key key ≡ true
same-self (Votes c s) = and-both _ _ (equal-yes c c refl) (equal-yes s s refl)
same-self (VotesIn u c s) = and-both _ _ (equal-yes u u refl) (and-both _ _ (equal-yes c c refl) (equal-yes s s refl))
same-self (Over c) = equal-yes c c refl
same-self (Under c) = equal-yes c c refl

pub same-equal : (one other : Counted) → same_counted one other ≡ true → one ≡ other
same-equal (Votes c s) (Votes d t) e = ap₂ Votes (equal-from_yes c d (and-left _ _ e)) (equal-from_yes s t (and-right (c == d) _ e))
same-equal (VotesIn u c s) (VotesIn v d t) e =
    let rest : (c == d && s == t) ≡ true = and-right (u == v) _ e in
    ap (λ k. VotesIn k c s) (equal-from_yes u v (and-left _ _ e))
    ∙ ap₂ (VotesIn v) (equal-from_yes c d (and-left _ _ rest)) (equal-from_yes s t (and-right (c == d) _ rest))
same-equal (Over c) (Over d) e = ap Over (equal-from_yes c d e)
same-equal (Under c) (Under d) e = ap Under (equal-from_yes c d e)
same-equal (Votes c s) (VotesIn v d t) e = absurd cc
same-equal (Votes c s) (Over d) e = absurd cc
same-equal (Votes c s) (Under d) e = absurd cc
same-equal (VotesIn u c s) (Votes d t) e = absurd cc
same-equal (VotesIn u c s) (Over d) e = absurd cc
same-equal (VotesIn u c s) (Under d) e = absurd cc
same-equal (Over c) (Votes d t) e = absurd cc
same-equal (Over c) (VotesIn v d t) e = absurd cc
same-equal (Over c) (Under d) e = absurd cc
same-equal (Under c) (Votes d t) e = absurd cc
same-equal (Under c) (VotesIn v d t) e = absurd cc
same-equal (Under c) (Over d) e = absurd cc

-- the derived test says the same
pub derived-same : (one other : Counted) → derived one other ≡ same_counted one other
derived-same (Votes c s) (Votes d t) = refl
derived-same (VotesIn u c s) (VotesIn v d t) = refl
derived-same (Over c) (Over d) = refl
derived-same (Under c) (Under d) = refl
derived-same (Votes c s) (VotesIn v d t) = refl
derived-same (Votes c s) (Over d) = refl
derived-same (Votes c s) (Under d) = refl
derived-same (VotesIn u c s) (Votes d t) = refl
derived-same (VotesIn u c s) (Over d) = refl
derived-same (VotesIn u c s) (Under d) = refl
derived-same (Over c) (Votes d t) = refl
derived-same (Over c) (VotesIn v d t) = refl
derived-same (Over c) (Under d) = refl
derived-same (Under c) (Votes d t) = refl
derived-same (Under c) (VotesIn v d t) = refl
derived-same (Under c) (Over d) = refl

looked-same : {X : Type 0} (p q : Counted → Bool) → ((key : Counted) → p key ≡ q key) → (entries : List (Counted × X)) → lookup p entries ≡ lookup q entries
looked-same p q same [] = refl
looked-same {X} p q same (entry ∷ entries) =
    ap₂ (λ (b : Bool) (rest : Option X). cond b (Some entry.1) rest) (same entry.0) (looked-same p q same entries)

pub get-same : {S : Type 0} (sums : IndexMap Counted ℕ S) (key : Counted) → get derived sums key ≡ get same_counted sums key
get-same sums key = looked-same (derived key) (same_counted key) (derived-same key) sums.entries

pub same-turned : (one other : Counted) → same_counted one other ≡ same_counted other one
same-turned one other = same-bool _ _ (turned one other) (turned other one)
  where
    turned : (a b : Counted) → same_counted a b ≡ true → same_counted b a ≡ true
    turned a b e = subst (λ (k : Counted). same_counted k a ≡ true) (same-equal a b e) (same-self a)

one-sum : (b : Bool) (key : Counted) (number : ℕ) → sum_by (λ (share : Share). share.1) (cond b ((key, number) ∷ []) []) ≡ cond b number 0
one-sum true key number = omega arith
one-sum false key number = refl

-- the sum of a single share
pub one-share : (other key : Counted) (number : ℕ) → sum_of other ((key, number) ∷ []) ≡ cond (same_counted key other) number 0
one-share other key number =
    one-sum (same_counted other key) key number ∙ ap (λ (b : Bool). cond b number 0) (same-turned other key)

pub own-share : (key : Counted) (number : ℕ) → sum_of key ((key, number) ∷ []) ≡ number
own-share key number = one-share key key number ∙ ap (λ (b : Bool). cond b number 0) (same-self key)

module _ {S : Type 0} (key : Counted) (number : ℕ) (old new : IndexMap Counted ℕ S) where
  absent-zero : get derived old key ≡ None → sum_at old key ≡ 0
  absent-zero e = ap (λ (o : Option ℕ). unwrap_or o 0) (sym (get-same old key) ∙ e)

  -- a sum that isn't there isn't lowered
  pub succeeds : {A F : Type 0} (change : Change) (result : Result A F) → Allows change ((key, number) ∷ []) old → 0 < number
      → (0 < spare old → IsOk result) → OnErr result (get derived old key ≡ None) → IsOk result
  succeeds Raise result h some room absent = room (omega (arith, h.0))
  succeeds Lower (Ok x) h some room absent = refl
  succeeds Lower (Err e) h some room absent = absurd (omega (arith, h key, own-share key number, some, absent-zero absent))

  module _
      (changed : (other : Counted) → get same_counted new other
      ≡ cond (same_counted key other) (Some (changed_by Raise (sum_at old key) number)) (get same_counted old other)) where
    raised-at : (other : Counted) (b : Bool) → same_counted key other ≡ b → sum_at new other ≡ sum_at old other + cond b number 0
    raised-at other true e =
        ap (λ (o : Option ℕ). unwrap_or o 0) (changed other ∙ ap (λ (b : Bool). cond b (Some (sum_at old key + number)) (get same_counted old other)) e)
        ∙ ap (λ (k : Counted). sum_at old k + number) (same-equal key other e)
    raised-at other false e =
        let same : sum_at old other ≡ sum_at old other + 0 = omega arith in
        ap (λ (o : Option ℕ). unwrap_or o 0) (changed other ∙ ap (λ (b : Bool). cond b (Some (sum_at old key + number)) (get same_counted old other)) e)
        ∙ same

    pub raised : (other : Counted) → sum_at new other ≡ sum_at old other + sum_of other ((key, number) ∷ [])
    raised other = raised-at other (same_counted key other) refl ∙ ap (λ n. sum_at old other + n) (sym (one-share other key number))

  module _ (less : number ≤ sum_at old key)
      (changed : (other : Counted) → get same_counted new other
      ≡ cond (same_counted key other) (Some (changed_by Lower (sum_at old key) number)) (get same_counted old other)) where
    lowered-at : (other : Counted) (b : Bool) → same_counted key other ≡ b → sum_at old other ≡ sum_at new other + cond b number 0
    lowered-at other true e =
        let here : sum_at new other ≡ sum_at old key - number =
        ap (λ (o : Option ℕ). unwrap_or o 0) (changed other ∙ ap (λ (b : Bool). cond b (Some (sum_at old key - number)) (get same_counted old other)) e) in
        let same : sum_at old key ≡ sum_at old other = ap (sum_at old) (same-equal key other e) in
        omega (arith, here, same, less)
    lowered-at other false e =
        let here : sum_at new other ≡ sum_at old other =
        ap (λ (o : Option ℕ). unwrap_or o 0) (changed other ∙ ap (λ (b : Bool). cond b (Some (sum_at old key - number)) (get same_counted old other)) e) in
        omega (arith, here)

    pub lowered : (other : Counted) → sum_at old other ≡ sum_at new other + sum_of other ((key, number) ∷ [])
    lowered other = lowered-at other (same_counted key other) refl ∙ ap (λ n. sum_at new other + n) (sym (one-share other key number))

  updated : (change : Change) (other : Counted)
      → get derived new other ≡ cond (derived key other) (Some (changed_by change (sum_at old key) number)) (get derived old other)
      → get same_counted new other ≡ cond (same_counted key other) (Some (changed_by change (sum_at old key) number)) (get same_counted old other)
  updated change other h =
      sym (get-same new other) ∙ h
      ∙ ap₂ (λ (b : Bool) (was : Option ℕ). cond b (Some (changed_by change (sum_at old key) number)) was) (derived-same key other) (get-same old other)

  -- the sum behind a change
  pub one-changed : (change : Change) → Allows change ((key, number) ∷ []) old → spare old ≤ spare new + 1
      → ((other : Counted) → get derived new other ≡ cond (derived key other) (Some (changed_by change (sum_at old key) number))
      (get derived old other)) → IsChanged change ((key, number) ∷ []) old new
  one-changed Raise h room changed = (room, raised (λ other. updated Raise other (changed other)))
  one-changed Lower h room changed = lowered (omega (arith, h key, own-share key number)) (λ other. updated Lower other (changed other))

-- what was done, where something was
pub on-ok : {A F P : Type 0} (result : Result A F) → IsOk result → OnOk result P → P
on-ok (Ok x) is h = h
on-ok (Err e) is h = absurd cc
