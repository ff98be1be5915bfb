-- Lists of values that are made one after the other, by their numbers.
use Rattle.std.proofs.Common.{◌≡◌, ◌+◌, ℕ, List, [], ◌∷◌, ◌++◌, map, ap, sym, ◌∙◌}
use Rattle.std.specs.List.{range_with_len}
use Rattle.serde_json.specs.Data.{Data}
use Rattle.serde_json.specs.View.{view}
use Rattle.serde_json.specs.declared.value.Value.{Value}
use Rattle.std.proofs.lemmas.List.{map-append}
use Rattle.vx_base.proofs.Lists.{map-push}
use Rattle.vx_base.proofs.Ranges.{range-more}

-- the values of so many numbers from one on, and one number more
pub one_numbered : (make : ℕ → Data) (first n : ℕ) (made : List Value) (value : Value)
    → view value ≡ make (first + n) → map view made ≡ map make (range_with_len first n)
    → map view (made ++ value ∷ []) ≡ map make (range_with_len first (n + 1))
one_numbered make first n made value gives so_far =
    map-push view made value
    ∙ (ap (λ (front : List Data). front ++ view value ∷ []) so_far
    ∙ (ap (λ (d : Data). map make (range_with_len first n) ++ d ∷ []) gives
    ∙ (sym (map-append make (range_with_len first n) ((first + n) ∷ []))
    ∙ ap (map make) (sym (range-more first n)))))
