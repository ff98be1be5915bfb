-- An array's elements are the values that it was made of.
use Rattle.std.proofs.Common.{◌≡◌, ℕ, List, [], ◌∷◌, map, Some, Ok, ap, refl}
use Rattle.serde_json.specs.Data.{Data}
use Rattle.serde_json.specs.View.{view, items_of, items_view}
use Rattle.serde_json.specs.Find.{as_array}
use Rattle.serde_json.specs.declared.value.Value.{Value}
use Rattle.vx_json.specs.Reading.{elements, list_in}

elements-items_of : (values : List Data) → elements (items_of values) ≡ values
elements-items_of [] = refl
elements-items_of (value ∷ values) = ap (λ (rest : List Data). value ∷ rest) (elements-items_of values)

pub list_given : (value : Data) (path : List ℕ) (values : List Value) → Some (items_view values) ≡ as_array value → list_in value path ≡ Ok (map view values)
list_given value path values e = rw (← e, elements-items_of (map view values)) refl
