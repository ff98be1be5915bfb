-- Results: what follows from one that was given, and answers that are what they are defined to be.
use Rattle.std.proofs.Common.{◌≡◌, List, ◌++◌, Bool, true, false, cond, refl, sym, subst, ◌∙◌}
use Rattle.std.specs.Prelude.{Option, Some, None, Result, Ok, Err, IfOk, IsOk, OnOk, is_ok, ok_or}
use Rattle.std.proofs.lemmas.Result.{IfOk-at_ok, IfOk-weaker}
use Rattle.vx_base.specs.Results.{◌>>=◌}
use Rattle.vx_base.specs.Refusals.{Unless, Gives}

-- what was given step by step
pub bind_ok : {A B F : Type 0} (r : Result A F) (f : A → Result B F) (y : B) → (r >>= f) ≡ Ok y → (x : A) × (r ≡ Ok x) × (f x ≡ Ok y)
bind_ok (Ok x) f y e = (x, refl, e)
bind_ok (Err d) f y e = absurd cc

-- a refusal that is none of the steps' is not that of all
pub bind_never : {A B F : Type 0} (r : Result A F) (f : A → Result B F) (e : F) → (r ≡ Err e → ⊥) → ((x : A) → f x ≡ Err e → ⊥) → (r >>= f) ≡ Err e → ⊥
bind_never (Ok x) f e first then h = then x h
bind_never (Err d) f e first then h = first cc

-- what is given, where something is, is so
pub record Holds {A F : Type 0} (P : A → Type 0) (r : Result A F) : Type 0 where
  pub is : IfOk r P

pub given : {A F : Type 0} {P : A → Type 0} {x : A} → P x → Holds {F = F} P (Ok x)
given p = record { is = p }

pub weaker : {A F : Type 0} {P Q : A → Type 0} {r : Result A F} → Holds P r → ((x : A) → P x → Q x) → Holds Q r
weaker {r = r} holds f = record { is = IfOk-weaker r _ _ f holds.is }

bound : {A B F : Type 0} (P : A → Type 0) (Q : B → Type 0) (r : Result A F) (f : A → Result B F) → IfOk r P → ((x : A) → P x → IfOk (f x) Q) → IfOk (r >>= f) Q
bound P Q (Ok x) f p next = next x p
bound P Q (Err e) f p next = tt

-- what a step gives, and what follows from it for the next
pub then : {A B F : Type 0} {P : A → Type 0} {Q : B → Type 0} {r : Result A F} {f : A → Result B F} → Holds P r → ((x : A) → P x → Holds Q (f x)) → Holds Q (r >>= f)
then {P = P} {Q = Q} {r = r} {f = f} holds next = record { is = bound P Q r f holds.is (λ x p. (next x p).is) }

-- the same of a step of which nothing is known
pub after : {A B F : Type 0} {Q : B → Type 0} (r : Result A F) {f : A → Result B F} → ((x : A) → Holds Q (f x)) → Holds Q (r >>= f)
after (Ok x) next = next x
after (Err e) next = record { is = tt }

-- what is given where a test holds
pub where_true : {A F : Type 0} {P : A → Type 0} (b : Bool) (x : A) (e : F) → (b ≡ true → P x) → Holds P (cond b (Ok x) (Err e))
where_true true x e p = record { is = p refl }
where_true false x e p = record { is = tt }

-- what is given where a test fails
pub where_false : {A F : Type 0} {P : A → Type 0} (b : Bool) (x : A) (e : F) → (b ≡ false → P x) → Holds P (cond b (Err e) (Ok x))
where_false true x e p = record { is = tt }
where_false false x e p = record { is = p refl }

-- what is given where something was found
pub where_found : {A F : Type 0} {P : A → Type 0} (found : Option A) (e : F) → ((x : A) → found ≡ Some x → P x) → Holds P (ok_or found e)
where_found (Some x) e p = record { is = p x refl }
where_found None e p = record { is = tt }

-- two facts of what was done
pub OnOk-both : {T F P Q R : Type 0} (r : Result T F) → (P → Q → R) → OnOk r P → OnOk r Q → OnOk r R
OnOk-both (Ok x) f p q = f p q
OnOk-both (Err e) f p q = tt

-- what was added at the end, or else refused
pub OnOk-pushed : {A F : Type 0} (r : Result (Unit {0}) F) (old more now all : List A) → now ≡ cond (is_ok r) (old ++ more) old → old ++ more ≡ all → OnOk r (now ≡ all)
OnOk-pushed (Ok done) old more now all h k = h ∙ k
OnOk-pushed (Err e) old more now all h k = tt

-- a claim that always holds
pub Unless-always : {P : Type 0} (b : Bool) → P → Unless b P
Unless-always true h = tt
Unless-always false h = h

-- a claim that follows from another, unless the same is so
pub Unless-weaker : {P Q : Type 0} (b : Bool) → (P → Q) → Unless b P → Unless b Q
Unless-weaker true f h = tt
Unless-weaker false f h = f h

-- the claim, where it is known that the other thing isn't so
pub Unless-no : {P : Type 0} (b : Bool) → b ≡ false → Unless b P → P
Unless-no true e h = absurd cc
Unless-no false e h = h

-- an answer that is as defined
pub Gives-same : {A F : Type 0} (is_no_memory : F → Bool) (result defined : Result A F) → defined ≡ result → Gives is_no_memory result defined
Gives-same is_no_memory (Ok x) defined h = h
Gives-same is_no_memory (Err e) defined h = Unless-always (is_no_memory e) h

-- what holds of the value that is defined to be given holds of the one that was given
pub Gives-holds : {A F : Type 0} (is_no_memory : F → Bool) {P : A → Type 0} (result : Result A F) {defined : Result A F} → Gives is_no_memory result defined → Holds P defined → IfOk result P
Gives-holds is_no_memory {P = P} (Ok x) h holds = IfOk-at_ok P h holds.is
Gives-holds is_no_memory (Err e) h holds = tt

-- what an answer that isn't refused gives
pub ok-is : {A F : Type 0} (r : Result A F) → IsOk r → (x : A) × (r ≡ Ok x)
ok-is (Ok x) h = (x, refl)
ok-is (Err e) h = absurd cc

pub is-ok_from : {A F : Type 0} (r : Result A F) (x : A) → r ≡ Ok x → IsOk r
is-ok_from {A} {F} r x is = let Good : Result A F → Type 0 = λ some. IsOk some in subst Good (sym is) refl
