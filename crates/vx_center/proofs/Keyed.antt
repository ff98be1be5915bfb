-- Places with keys: those of all sheets, in the order of the keys, are the places of an export.
use Rattle.std.proofs.Common.{◌≡◌, ℕ, ◌+◌, ◌<◌, List, [], ◌∷◌, ◌++◌, length, map, get_or, refl, sym, ap, ap₂, subst, ◌∙◌, arith}
use Rattle.std.specs.Prelude.{All, IsPermutation, IsSortedByKey}
use Rattle.std.specs.List.{range_with_len}
use Rattle.std.specs.Ordering.{is_lt}
use Rattle.std.proofs.lemmas.List.{get_or-map, length-map}
use Rattle.std.proofs.lemmas.List.Elements.{All-map}
use Rattle.std.proofs.lemmas.List.FromFn.{fill_by_all, get_or-map-range_with_len, length-map-range_with_len}
use Rattle.std.proofs.lemmas.List.Sorted.{All-permutation, IsPermutation-map}
use Rattle.vx_base.proofs.Lists.{map-map, map-push}
use Rattle.vx_base.proofs.Ranges.{map-laid}
use Rattle.vx_election_model.specs.declared.election.Election.{Election}
use Rattle.vx_events.specs.declared.event.Event.{Event}
use Rattle.vx_events.specs.declared.key.Key.{Key}
use Rattle.vx_center.specs.declared.rows.ExportSheet.{ExportSheet}
use Rattle.vx_center.specs.Sheets.{sheets_in}
use Rattle.vx_center.specs.Places.{no_sheet, sheet_at}
use Rattle.vx_center.specs.Exports.{AreExportPlaces, AreExportRows, key_order, keyed_at, row_at, row_of}

-- the sheets, one place after the other
sheets_by_place : (kept : List Event) → map (sheet_at kept) (range_with_len 0 (length (sheets_in kept))) ≡ sheets_in kept
sheets_by_place kept = sym (fill_by_all (sheet_at kept) (sheets_in kept) (length (sheets_in kept)) no_sheet refl (λ k within. refl))

-- one place more
pub one_more : {X Y : Type 0} (view : X → Y) (make : ℕ → Y) (old now : List X) (i : ℕ) (x : X)
    → now ≡ old ++ x ∷ [] → view x ≡ make i → map view old ≡ map make (range_with_len 0 i)
    → map view now ≡ map make (range_with_len 0 (i + 1))
one_more {Y = Y} view make old now i x pushed is before =
    map-laid make [] (map view old) (map view now) i before
    (ap (map view) pushed ∙ map-push view old x ∙ ap (λ (y : Y). map view old ++ y ∷ []) is)

module _ {X : Type 0} (place : X → ℕ) (key : X → Key) (election : Election) (kept : List Event) where
  abbrev keyed : X → ℕ × Key
  keyed x = (place x, key x)

  -- a sheet stands at the place, and has the key
  abbrev IsKeyed : X → Type 0
  IsKeyed x = (place x < length (sheets_in kept)) × (key x ≡ (sheet_at kept (place x)).key)

  abbrev row : X → ExportSheet
  row x = row_at election kept (place x)

  abbrev AreAll : List X → Type 0
  AreAll items = map keyed items ≡ map (keyed_at kept) (range_with_len 0 (length (sheets_in kept)))

  as_many : (items : List X) → AreAll items → length items ≡ length (sheets_in kept)
  as_many items are =
      sym (length-map items keyed) ∙ ap length are ∙ length-map-range_with_len (keyed_at kept) 0 (length (sheets_in kept))

  all_keyed : (items : List X) → AreAll items → All IsKeyed items
  all_keyed items are i d within =
      let few : i < length (sheets_in kept) = omega (arith, as_many items are, within) in
      let first : 0 + i ≡ i = omega arith in
      let same : keyed (get_or items i d) ≡ keyed_at kept i =
      sym (get_or-map keyed items i d (keyed d) within)
      ∙ ap (λ (pairs : List (ℕ × Key)). get_or pairs i (keyed d)) are
      ∙ get_or-map-range_with_len (keyed_at kept) 0 (length (sheets_in kept)) i i (keyed d) few first in
      let there : place (get_or items i d) ≡ i = ap (λ (pair : ℕ × Key). pair.0) same in (
        subst (λ (p : ℕ). p < length (sheets_in kept)) (sym there) few,
        ap (λ (pair : ℕ × Key). pair.1) same ∙ ap (λ (p : ℕ). (sheet_at kept p).key) (sym there),
      )

  all_rows : (items : List X) → AreAll items → map row items ≡ map (row_of election kept) (sheets_in kept)
  all_rows items are =
      sym (map-map (λ (pair : ℕ × Key). row_at election kept pair.0) keyed items)
      ∙ ap (map (λ (pair : ℕ × Key). row_at election kept pair.0)) are
      ∙ map-map (λ (pair : ℕ × Key). row_at election kept pair.0) (keyed_at kept) (range_with_len 0 (length (sheets_in kept)))
      ∙ sym (map-map (row_of election kept) (sheet_at kept) (range_with_len 0 (length (sheets_in kept))))
      ∙ ap (map (row_of election kept)) (sheets_by_place kept)

  key_at : (items : List X) (i : ℕ) (d : X) (e : ExportSheet) → All IsKeyed items → i < length items → (get_or (map row items) i e).key ≡ key (get_or items i d)
  key_at items i d e all within =
      ap (λ (r : ExportSheet). r.key) (get_or-map row items i d e within) ∙ sym (all i d within).1

  rows_sorted : (items : List X) → All IsKeyed items → IsSortedByKey key key_order items → IsSortedByKey (λ (r : ExportSheet). r.key) key_order (map row items)
  rows_sorted [] all sorted i e low high = absurd (omega (arith, high))
  rows_sorted (x ∷ items) all sorted i e low high =
      let fits : i + 1 < length (x ∷ items) = omega (arith, high, length-map (x ∷ items) row) in
      ap₂ (λ (one other : Key). is_lt (key_order one other))
      (key_at (x ∷ items) (i + 1) x e all fits)
      (key_at (x ∷ items) i x e all (omega (arith, fits)))
      ∙ sorted i x low fits

  pub places-of_export : (items ordered : List X) (places : List ℕ) → AreAll items → IsPermutation items ordered
      → IsSortedByKey key key_order ordered → places ≡ map place ordered → AreExportPlaces election kept places
  places-of_export items ordered places are moved sorted taken =
      let all : All IsKeyed ordered = All-permutation IsKeyed items ordered moved (all_keyed items are) in
      let rows : map (row_at election kept) places ≡ map row ordered =
      ap (map (row_at election kept)) taken ∙ map-map (row_at election kept) place ordered in
      record {
        there = subst (λ (them : List ℕ). All (λ p. p < length (sheets_in kept)) them) (sym taken)
            (All-map (λ p. p < length (sheets_in kept)) place ordered (λ i d within. (all i d within).0));
        rows = subst (λ (them : List ExportSheet). AreExportRows election kept them) (sym rows)
            (record {
              all = subst (λ (them : List ExportSheet). IsPermutation them (map row ordered)) (all_rows items are) (IsPermutation-map row items ordered moved);
              sorted = rows_sorted ordered all sorted;
            });
      }
