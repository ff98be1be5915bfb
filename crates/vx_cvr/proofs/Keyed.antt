-- The rows of a report are those of the sheets that were added.
use Rattle.std.proofs.Common.{◌≡◌, ◌⊎◌, inl, inr, ℕ, zero, suc, ◌+◌, ◌<◌, Bool, true, false, cond, List, [], ◌∷◌, length, map, refl, sym, ap, ◌∙◌, arith}
use Rattle.std.specs.Prelude.{IsPermutation, Some, filter, slice_get, slice_index_or}
use Rattle.std.proofs.lemmas.List.Elements.{All-head}
use Rattle.std.proofs.lemmas.List.Sorted.{IsPermutation-cons, IsPermutation-middle, IsPermutation-refl, IsPermutation-trans}
use Rattle.std.proofs.lemmas.Option.{same_Some}
use Rattle.std.specs.declared.cmp.Ordering.{Ordering}
use Rattle.std.specs.declared.cmp.Ordering.TheVariants.{Less, Equal, Greater}
use Rattle.std.specs.Ordering.{match_ordering}
use Rattle.vx_election_model.specs.declared.election.Election.{Election}
use Rattle.vx_events.specs.declared.event.Event.{Event}
use Rattle.vx_events.specs.declared.key.Key.{Key}
use Rattle.vx_center.specs.declared.rows.ExportSheet.{ExportSheet}
use Rattle.vx_center.specs.Exports.{key_order, row_of}
use Rattle.vx_center.specs.Sheets.{Added, has_key, same_key, sheets_in}
use Rattle.vx_cvr.specs.Laws.{EachRowIsOfASheet, IsRowOfSheet, OneRowOfAKey, RowsAreOfTheSheets}
use Rattle.vx_cvr.specs.Rows.{in_order, placed, rows_of}
use Rattle.vx_cvr.proofs.Order as order
use Rattle.vx_cvr.proofs.Rows.{before, in_order-ascends, ranks}

module _ (test : ExportSheet → Bool) where
  -- a row that doesn't pass, placed among others
  placed-other : (row : ExportSheet) (rows : List ExportSheet) → test row ≡ false → filter test (placed row rows) ≡ filter test rows
  placed-other row [] not = ap (λ (b : Bool). cond b (row ∷ []) []) not
  placed-other row (other ∷ others) not = by (key_order other.key row.key) (placed-other row others not)
    where
      first : filter test (row ∷ other ∷ others) ≡ filter test (other ∷ others)
      first = ap (λ (b : Bool). cond b (row ∷ filter test (other ∷ others)) (filter test (other ∷ others))) not

      by : (o : Ordering) → filter test (placed row others) ≡ filter test others
          → filter test (match_ordering o (other ∷ placed row others) (row ∷ other ∷ others) (row ∷ other ∷ others)) ≡ filter test (other ∷ others)
      by Less rest = ap (λ (some : List ExportSheet). cond (test other) (other ∷ some) some) rest
      by Equal rest = first
      by Greater rest = first

  not-first : (other : ExportSheet) (others : List ExportSheet) → filter test (other ∷ others) ≡ [] → (test other ≡ false) × (filter test others ≡ [])
  not-first other others none = by (test other) refl none
    where
      by : (b : Bool) → test other ≡ b → cond b (other ∷ filter test others) (filter test others) ≡ [] → (test other ≡ false) × (filter test others ≡ [])
      by true is none = absurd cc
      by false is none = (is, none)

  -- one that passes, placed among others that don't
  placed-only : (row : ExportSheet) (rows : List ExportSheet) → test row ≡ true → filter test rows ≡ [] → filter test (placed row rows) ≡ row ∷ []
  placed-only row [] is none = ap (λ (b : Bool). cond b (row ∷ []) []) is
  placed-only row (other ∷ others) is none =
      by (key_order other.key row.key) (placed-only row others is (not-first other others none).1)
    where
      first : filter test (row ∷ other ∷ others) ≡ row ∷ []
      first =
          ap (λ (b : Bool). cond b (row ∷ filter test (other ∷ others)) (filter test (other ∷ others))) is
          ∙ ap (λ (some : List ExportSheet). row ∷ some) none

      by : (o : Ordering) → filter test (placed row others) ≡ row ∷ []
          → filter test (match_ordering o (other ∷ placed row others) (row ∷ other ∷ others) (row ∷ other ∷ others)) ≡ row ∷ []
      by Less rest =
          ap (λ (b : Bool). cond b (other ∷ filter test (placed row others)) (filter test (placed row others))) (not-first other others none).0
          ∙ rest
      by Equal rest = first
      by Greater rest = first

  in_order-none : (rows : List ExportSheet) → filter test rows ≡ [] → filter test (in_order rows) ≡ []
  in_order-none [] none = refl
  in_order-none (row ∷ rows) none =
      let both = not-first row rows none in
      placed-other row (in_order rows) both.0 ∙ in_order-none rows both.1

  in_order-one : (rows : List ExportSheet) (one : ExportSheet) → filter test rows ≡ one ∷ [] → filter test (in_order rows) ≡ one ∷ []
  in_order-one [] one h = h
  in_order-one (row ∷ rows) one h = by (test row) refl (in_order-one rows one) h
    where
      by : (b : Bool) → test row ≡ b → (filter test rows ≡ one ∷ [] → filter test (in_order rows) ≡ one ∷ [])
          → cond b (row ∷ filter test rows) (filter test rows) ≡ one ∷ [] → filter test (placed row (in_order rows)) ≡ one ∷ []
      by true is rest h =
          let same : row ≡ one = cc in
          let none : filter test rows ≡ [] = cc in
          placed-only row (in_order rows) is (in_order-none rows none) ∙ ap (λ (some : ExportSheet). some ∷ []) same
      by false is rest h = placed-other row (in_order rows) is ∙ rest h

-- rows of sheets have their keys
rows-keyed : (election : Election) (kept : List Event) (key : Key) (sheets : List Added)
    → filter (λ (row : ExportSheet). same_key key row.key) (map (row_of election kept) sheets) ≡ map (row_of election kept) (filter (has_key key) sheets)
rows-keyed election kept key [] = refl
rows-keyed election kept key (added ∷ sheets) = by (has_key key added) (rows-keyed election kept key sheets)
  where
    by : (b : Bool) → filter (λ (row : ExportSheet). same_key key row.key) (map (row_of election kept) sheets) ≡ map (row_of election kept)
        (filter (has_key key) sheets)
        → cond b (row_of election kept added ∷ filter (λ (row : ExportSheet). same_key key row.key) (map (row_of election kept) sheets))
        (filter (λ (row : ExportSheet). same_key key row.key) (map (row_of election kept) sheets))
        ≡ map (row_of election kept) (cond b (added ∷ filter (has_key key) sheets) (filter (has_key key) sheets))
    by true rest = ap (λ (rows : List ExportSheet). row_of election kept added ∷ rows) rest
    by false rest = rest

pub one-row : OneRowOfAKey
one-row election kept key added alone =
    in_order-one (λ (row : ExportSheet). same_key key row.key) (map (row_of election kept) (sheets_in kept)) (row_of election kept added)
    (rows-keyed election kept key (sheets_in kept) ∙ ap (map (row_of election kept)) alone)

-- a row in order is one of the rows
placed-from : (row : ExportSheet) (rows : List ExportSheet) (n : ℕ) (one : ExportSheet) → slice_get (placed row rows) n ≡ Some one
    → (row ≡ one) ⊎ ((place : ℕ) × (slice_get rows place ≡ Some one))
placed-from row [] zero one h = inl (same_Some row one h)
placed-from row [] (suc n) one h = absurd cc
placed-from row (other ∷ others) n one h = by (key_order other.key row.key) n h (placed-from row others)
  where
    first : (n : ℕ) → slice_get (row ∷ other ∷ others) n ≡ Some one → (row ≡ one) ⊎ ((place : ℕ) × (slice_get (other ∷ others) place ≡ Some one))
    first zero h = inl (same_Some row one h)
    first (suc n) h = inr (n, h)

    later : (row ≡ one) ⊎ ((place : ℕ) × (slice_get others place ≡ Some one)) → (row ≡ one) ⊎ ((place : ℕ) × (slice_get (other ∷ others) place ≡ Some one))
    later (inl same) = inl same
    later (inr there) = inr (suc there.0, there.1)

    by : (o : Ordering) (n : ℕ)
        → slice_get (match_ordering o (other ∷ placed row others) (row ∷ other ∷ others) (row ∷ other ∷ others)) n ≡ Some one
        → ((n : ℕ) (one : ExportSheet) → slice_get (placed row others) n ≡ Some one → (row ≡ one) ⊎ ((place : ℕ) × (slice_get others place ≡ Some one)))
        → (row ≡ one) ⊎ ((place : ℕ) × (slice_get (other ∷ others) place ≡ Some one))
    by Less zero h go = inr (0, h)
    by Less (suc n) h go = later (go n one h)
    by Equal n h go = first n h
    by Greater n h go = first n h

in_order-from : (rows : List ExportSheet) (n : ℕ) (one : ExportSheet) → slice_get (in_order rows) n ≡ Some one
    → (place : ℕ) × (slice_get rows place ≡ Some one)
in_order-from [] n one h = absurd cc
in_order-from (row ∷ rows) n one h = by (placed-from row (in_order rows) n one h) (in_order-from rows)
  where
    by : (row ≡ one) ⊎ ((place : ℕ) × (slice_get (in_order rows) place ≡ Some one))
        → ((n : ℕ) (one : ExportSheet) → slice_get (in_order rows) n ≡ Some one → (place : ℕ) × (slice_get rows place ≡ Some one))
        → (place : ℕ) × (slice_get (row ∷ rows) place ≡ Some one)
    by (inl same) go = (0, ap Some same)
    by (inr there) go = let rest = go there.0 one there.1 in (suc rest.0, rest.1)

-- so each is of a sheet that was added
sheet-of : (election : Election) (kept : List Event) (sheets : List Added) (n : ℕ) (row : ExportSheet)
    → slice_get (map (row_of election kept) sheets) n ≡ Some row
    → (place : ℕ) × (added : Added) × ((slice_get sheets place ≡ Some added) × (row ≡ row_of election kept added))
sheet-of election kept [] n row h = absurd cc
sheet-of election kept (added ∷ sheets) zero row h = (0, added, (refl, sym (same_Some (row_of election kept added) row h)))
sheet-of election kept (added ∷ sheets) (suc n) row h = let rest = sheet-of election kept sheets n row h in (suc rest.0, rest.1, rest.2)

pub row-added : EachRowIsOfASheet
row-added election kept n row h =
    let at = in_order-from (map (row_of election kept) (sheets_in kept)) n row h in
    let it = sheet-of election kept (sheets_in kept) at.0 row at.1 in
    record { place = it.0; added = it.1; is_added = it.2.0; is_row = it.2.1 }

-- rows in order are the rows
placed-moved : (row : ExportSheet) (rows : List ExportSheet) → IsPermutation (row ∷ rows) (placed row rows)
placed-moved row [] = IsPermutation-refl (row ∷ [])
placed-moved row (other ∷ others) = by (key_order other.key row.key) (placed-moved row others)
  where
    by : (o : Ordering) → IsPermutation (row ∷ others) (placed row others)
        → IsPermutation (row ∷ other ∷ others)
        (match_ordering o (other ∷ placed row others) (row ∷ other ∷ others) (row ∷ other ∷ others))
    by Less rest =
        IsPermutation-trans (row ∷ other ∷ others) (other ∷ row ∷ others) (other ∷ placed row others)
        (IsPermutation-middle (row ∷ []) other others) (IsPermutation-cons other (row ∷ others) (placed row others) rest)
    by Equal rest = IsPermutation-refl (row ∷ other ∷ others)
    by Greater rest = IsPermutation-refl (row ∷ other ∷ others)

in_order-moved : (rows : List ExportSheet) → IsPermutation rows (in_order rows)
in_order-moved [] = IsPermutation-refl []
in_order-moved (row ∷ rows) =
    IsPermutation-trans (row ∷ rows) (row ∷ in_order rows) (placed row (in_order rows))
    (IsPermutation-cons row rows (in_order rows) (in_order-moved rows)) (placed-moved row (in_order rows))

sorted : (rows : List ExportSheet) → order.Ascends before ranks rows → (k : ℕ) (d : ExportSheet) → k + 1 < length rows
    → before (slice_index_or rows (k + 1) d) (slice_index_or rows k d) ≡ false
sorted [] up k d less = absurd (omega (arith, less))
sorted (one ∷ []) up k d less = absurd (omega (arith, less))
sorted (one ∷ other ∷ others) up zero d less = All-head (λ y. before y one ≡ false) other others up.0
sorted (one ∷ other ∷ others) up (suc k) d less =
    let next : suc k + 1 ≡ suc (k + 1) = omega arith in
    ap (λ (n : ℕ). before (slice_index_or (one ∷ other ∷ others) n d) (slice_index_or (one ∷ other ∷ others) (suc k) d)) next
    ∙ sorted (other ∷ others) up.1 k d (omega (arith, less))

pub rows-of-sheets : RowsAreOfTheSheets
rows-of-sheets election kept =
    let rows = map (row_of election kept) (sheets_in kept) in
    record { all = in_order-moved rows; sorted = λ k d low less. sorted (in_order rows) (in_order-ascends rows) k d less }
