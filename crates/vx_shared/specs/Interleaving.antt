-- What several lists of events may become, where each keeps its order.
use Rattle.std.specs.Prelude.{◌≡◌, ℕ, All, List, [], ◌∷◌, Some, slice_get, slice_set}
use Rattle.std.specs.List.{AllZip}
use mathlib.Core.List.{IsPrefix}
use Rattle.vx_events.specs.declared.event.Event.{Event}

-- nothing is left of any list, or the first event is the head of one of them and the others interleave what remains
abbrev pub Interleaving : List (List Event) → List Event → Type 0
Interleaving lists [] = All (λ (list : List Event). list ≡ []) lists
Interleaving lists (event ∷ events) =
    (place : ℕ) × (more : List Event)
    × ((slice_get lists place ≡ Some (event ∷ more)) × Interleaving (slice_set lists place more) events)

-- each list begins the one at its place
abbrev pub AreFronts : List (List Event) → List (List Event) → Type 0
AreFronts fronts lists = AllZip (λ (front : List Event) (list : List Event). IsPrefix front list) fronts lists
