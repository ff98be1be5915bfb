-- Ids with commas between, one more at a time.
use Rattle.std.proofs.Common.{◌≡◌, ℕ, ◌+◌, ◌<◌, Bool, true, false, List, [], ◌∷◌, ◌++◌, length, take, get_or, Some, None, refl, ap, ap₂, sym, ◌∙◌, append_assoc, append-nil}
use Rattle.std.specs.Prelude.{slice_get}
use Rattle.std.specs.List.{flat_map}
use Rattle.std.specs.Option.{option_to_list}
use Rattle.std.proofs.lemmas.List.{take_more}
use Rattle.std.proofs.lemmas.List.Concat.{flat_map-append}
use Rattle.vx_audit.specs.Ascending.{ids_at, joined}
use Rattle.vx_audit.specs.Pairs.{further}

-- there are none
abbrev pub are_none : List (List ℕ) → Bool
are_none [] = true
are_none (id ∷ ids) = false

one-joined : (ids : List (List ℕ)) (id : List ℕ) → joined (ids ++ id ∷ []) ≡ joined ids ++ further (are_none ids) id
one-joined [] id = append-nil id
one-joined (first ∷ ids) id =
    ap (λ (more : List ℕ). first ++ more) (flat_map-append (λ (other : List ℕ). 44 ∷ other) ids (id ∷ []) ∙ ap (λ (more : List ℕ). flat_map (λ (other : List ℕ). 44 ∷ other) ids ++ 44 ∷ more) (append-nil id))
    ∙ sym (append_assoc first (flat_map (λ (other : List ℕ). 44 ∷ other) ids) (44 ∷ id))

one-longer : (ids : List (List ℕ)) (id : List ℕ) → false ≡ are_none (ids ++ id ∷ [])
one-longer [] id = refl
one-longer (first ∷ ids) id = refl

-- how far the ids at places are joined
pub record IsJoined (ids : List (List ℕ)) (places : List ℕ) (bytes : List ℕ) (first : Bool) : Type 0 where
  pub text : bytes ≡ joined (ids_at ids places)
  pub none : first ≡ are_none (ids_at ids places)

module _ (ids : List (List ℕ)) (places : List ℕ) (i : ℕ) (within : i < length places) where
  one-at : ids_at ids (take (i + 1) places) ≡ ids_at ids (take i places) ++ option_to_list (slice_get ids (get_or places i 0))
  one-at =
      ap (ids_at ids) (take_more places i 0 within)
      ∙ flat_map-append (λ place. option_to_list (slice_get ids place)) (take i places) (get_or places i 0 ∷ [])
      ∙ ap (λ (more : List (List ℕ)). ids_at ids (take i places) ++ more) (append-nil (option_to_list (slice_get ids (get_or places i 0))))

  module _ (text now : List ℕ) (first : Bool) (before : IsJoined ids (take i places) text first) where
    pub id-joined : (id : List ℕ) → slice_get ids (get_or places i 0) ≡ Some id → now ≡ text ++ further first id → IsJoined ids (take (i + 1) places) now false
    id-joined id is step =
        let more : ids_at ids (take (i + 1) places) ≡ ids_at ids (take i places) ++ id ∷ [] =
        one-at ∙ ap (λ found. ids_at ids (take i places) ++ option_to_list found) is in
        record {
          text = step ∙ ap₂ (λ (t : List ℕ) (f : Bool). t ++ further f id) before.text before.none ∙ sym (one-joined (ids_at ids (take i places)) id)
              ∙ ap joined (sym more);
          none = one-longer (ids_at ids (take i places)) id ∙ ap are_none (sym more);
        }

    pub none-joined : slice_get ids (get_or places i 0) ≡ None → now ≡ text → IsJoined ids (take (i + 1) places) now first
    none-joined is step =
        let same : ids_at ids (take (i + 1) places) ≡ ids_at ids (take i places) =
        one-at ∙ ap (λ found. ids_at ids (take i places) ++ option_to_list found) is ∙ append-nil (ids_at ids (take i places)) in
        record {
          text = step ∙ before.text ∙ ap joined (sym same);
          none = before.none ∙ ap are_none (sym same);
        }
