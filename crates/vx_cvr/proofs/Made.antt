-- Lists of values that are made one after the other.
use Rattle.std.proofs.Common.{◌≡◌, ◌+◌, ◌<◌, ℕ, List, [], ◌∷◌, ◌++◌, length, drop, map, get_or, sym, ap, ◌∙◌, append_assoc}
use Rattle.std.proofs.lemmas.List.{drop_more}
use Rattle.serde_json.specs.Data.{Data}
use Rattle.serde_json.specs.View.{view}
use Rattle.serde_json.specs.declared.value.Value.{Value}
use Rattle.std.specs.List.{range_with_len}
use Rattle.vx_base.proofs.Lists.{map-push}
use Rattle.vx_base.proofs.Ranges.{map-laid}

-- what was made of the first items, and what is still to be made of the others, are what is made of all
pub one_made : {X : Type 0} (make : X → Data) (xs : List X) (made : List Value) (i : ℕ) (x : X) (value : Value) (all : List Data)
    → i < length xs → x ≡ get_or xs i x → view value ≡ make x → map view made ++ map make (drop i xs) ≡ all
    → map view (made ++ value ∷ []) ++ map make (drop (i + 1) xs) ≡ all
one_made {X} make xs made i x value all within is gives so_far =
    let rest : drop i xs ≡ x ∷ drop (i + 1) xs = drop_more xs i x within ∙ ap (λ (y : X). y ∷ drop (i + 1) xs) (sym is) in
    ap (λ (front : List Data). front ++ map make (drop (i + 1) xs)) (map-push view made value)
    ∙ (append_assoc (map view made) (view value ∷ []) (map make (drop (i + 1) xs))
    ∙ (ap (λ (d : Data). map view made ++ d ∷ map make (drop (i + 1) xs)) gives
    ∙ (ap (λ (left : List X). map view made ++ map make left) (sym rest)
    ∙ so_far)))

-- the same of numbers from 0 on
pub one_numbered : (make : ℕ → Data) (front : List Data) (made : List Value) (i : ℕ) (value : Value)
    → view value ≡ make i → map view made ≡ front ++ map make (range_with_len 0 i)
    → map view (made ++ value ∷ []) ≡ front ++ map make (range_with_len 0 (i + 1))
one_numbered make front made i value gives so_far =
    map-laid make front (map view made) (map view (made ++ value ∷ [])) i so_far
    (map-push view made value ∙ ap (λ (d : Data). map view made ++ d ∷ []) gives)
