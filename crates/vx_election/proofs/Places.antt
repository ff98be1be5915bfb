-- Places of ids, one id after another.
use Rattle.std.proofs.Common.{◌≡◌, ℕ, suc, Bool, true, false, cond, List, [], ◌∷◌, ◌++◌, length, Option, Some, None, refl, sym, ap, ◌∙◌}
use Rattle.std.specs.Prelude.{option_map, bytes_eq}
use Rattle.std.specs.Bool.{Decides}
use Rattle.std.proofs.lemmas.Slice.Eq.{bytes_eq-Decides}
use Rattle.std.proofs.lemmas.Bool.Decides.{same_from_decides}
use Rattle.std.proofs.lemmas.Bool.{false≢true}
use Rattle.vx_election.specs.Ids.{place_in}

pub bytes_eq-sym : (xs ys : List ℕ) → bytes_eq xs ys ≡ bytes_eq ys xs
bytes_eq-sym xs ys =
    let back = bytes_eq-Decides ys xs in
    let turned : Decides (bytes_eq ys xs) (xs ≡ ys) = (λ e. sym (back.0 e), λ e. back.1 (sym e)) in
    same_from_decides _ _ (bytes_eq-Decides xs ys) turned

-- an id that isn't in a list is neither the first nor among the others
pub none-parts : (b : Bool) (o : Option ℕ) → cond b (Some 0) (option_map (λ k. suc k) o) ≡ None → (b ≡ false) × (o ≡ None)
none-parts true o e = absurd cc
none-parts false None e = (refl, refl)
none-parts false (Some k) e = absurd cc

chosen : (a b : Bool) (n : ℕ) (o : Option ℕ) → (a ≡ true → b ≡ false) → cond b (Some 0) (option_map (λ k. suc k) (cond a (Some n) o)) ≡ cond a (Some (suc n)) (cond b (Some 0) (option_map (λ k. suc k) o))
chosen true true n o h = absurd (false≢true (sym (h refl)))
chosen true false n o h = refl
chosen false b n o h = refl

-- an id that is new stands at the end, and each other id stays where it is
pub place-push : (ids : List (List ℕ)) (new id : List ℕ) → place_in new ids ≡ None → place_in id (ids ++ new ∷ []) ≡ cond (bytes_eq new id) (Some (length ids)) (place_in id ids)
place-push [] new id e = ap (λ (b : Bool). cond b (Some 0) None) (bytes_eq-sym id new)
place-push (first ∷ ids) new id e =
    let parts = none-parts (bytes_eq new first) (place_in new ids) e in
    let apart : bytes_eq new id ≡ true → bytes_eq id first ≡ false = λ same. ap (λ (x : List ℕ). bytes_eq x first) (sym ((bytes_eq-Decides new id).0 same)) ∙ parts.0 in
    ap (λ (o : Option ℕ). cond (bytes_eq id first) (Some 0) (option_map (λ k. suc k) o)) (place-push ids new id parts.1) ∙ chosen (bytes_eq new id) (bytes_eq id first) (length ids) (place_in id ids) apart

-- the same of a map from ids to places
pub places-push : (places grown : List ℕ → Option ℕ) (ids more : List (List ℕ)) (new : List ℕ) (n : ℕ) → ((id : List ℕ) → places id ≡ place_in id ids) → ((id : List ℕ) → grown id ≡ cond (bytes_eq new id) (Some n) (places id)) → n ≡ length ids → more ≡ ids ++ new ∷ [] → place_in new ids ≡ None → (id : List ℕ) → grown id ≡ place_in id more
places-push places grown ids more new n held changed count longer none id =
    let before : cond (bytes_eq new id) (Some n) (places id) ≡ cond (bytes_eq new id) (Some (length ids)) (place_in id ids) = rw (held id, count) refl in
    changed id ∙ before ∙ sym (place-push ids new id none) ∙ ap (λ (x : List (List ℕ)). place_in id x) (sym longer)
