-- What is kept behind a record more, and without the first that is equal.
use Rattle.std.proofs.Common.{◌≡◌, ℕ, ◌+◌, ◌<◌, Bool, true, false, cond, ◌||◌, ◌==◌, List, [], ◌∷◌, ◌++◌, length, Option, Some, None, refl, sym, ap, subst, ◌∙◌, arith}
use Rattle.std.specs.Prelude.{sum_by, remove, is_some, nat_lt}
use Rattle.std.specs.List.{list_any, list_all, position_or_len}
use Rattle.std.specs.List.Sorted.{IsStrictlySortedBy}
use Rattle.std.specs.Option.{option_map, unwrap_or}
use Rattle.std.specs.Map.{keys_of, values_of, lookup, remove_entry}
use Rattle.std.specs.BTreeMap.{insert_entry}
use Rattle.std.proofs.lemmas.Map.Entries.{sum_by-remove_entry}
use Rattle.std.proofs.lemmas.List.{map-append}
use Rattle.indexmap.specs.IndexMap.{IndexMap}
use Rattle.vx_base.proofs.Booleans.{and-both, and-left, and-right}
use Rattle.vx_base.proofs.Numbers.{equal-yes, below-yes, below-from_yes}
use Rattle.vx_tally.specs.declared.report.CvrRecord.{CvrRecord}
use Rattle.vx_tally.specs.declared.sums.Counted.{Counted}
use Rattle.vx_tally.specs.declared.sums.Change.TheVariants.{Raise, Lower}
use Rattle.vx_tally.specs.Totals.{same_record, without_first, IsCountable, record_count_limit}
use Rattle.vx_tally.specs.Sums.{record_shares, Allows, IsChanged, IsSummed}
use Rattle.vx_tally.specs.Kept.{Entry, key_cmp, mark_of, in_order, records_of, is_kept, first_equal, IsKept}
use Rattle.vx_tally.proofs.Bounds.{summed-more, allows-less, summed-less}
use Rattle.vx_tally.proofs.Finding.{any-map, any-place}
use Rattle.vx_tally.proofs.Numbered.{at_key, fits, any-in_order, all-in_order, sum-in_order, in_order-insert, all-insert, all-weaker, all-removed, in_order-ascends, in_order-removed, values-removed}
use Rattle.vx_tally.proofs.FirstKept.{found-any, found-first}

-- a record more
module _ (one : CvrRecord) (next : ℕ) (es : List Entry) (kept : list_all (is_kept next) es ≡ true) where
  abbrev last : Entry
  last = ((mark_of one.unique, next), one)

  below : list_all (λ (e : Entry). nat_lt e.0.1 next) es ≡ true
  below = all-weaker (is_kept next) (λ (e : Entry). nat_lt e.0.1 next) (λ e is. and-right (e.0.0 == mark_of e.1.unique) _ is) es kept

  pub records-more : records_of (insert_entry key_cmp es (mark_of one.unique, next) one) ≡ records_of es ++ one ∷ []
  records-more = ap values_of (in_order-insert last es below) ∙ map-append (λ (e : Entry). e.1) (in_order es) (last ∷ [])

  later : (e : Entry) → is_kept next e ≡ true → is_kept (next + 1) e ≡ true
  later e is =
      and-both _ _ (and-left (e.0.0 == mark_of e.1.unique) _ is)
      (below-yes e.0.1 (next + 1) (omega (arith, below-from_yes e.0.1 next (and-right (e.0.0 == mark_of e.1.unique) _ is))))

  pub kept-more : {S : Type 0} (old room new : IndexMap Counted ℕ S) → IsSummed (records_of es) old → length (records_of es) < record_count_limit
      → IsCountable one → room.entries ≡ old.entries → IsChanged Raise (record_shares one) room new
      → IsKept (insert_entry key_cmp es (mark_of one.unique, next) one) (next + 1) new
  kept-more old room new is few countable same changed = record {
    summed =
        subst (λ (records : List CvrRecord). IsSummed records new) (sym records-more)
        (summed-more (records_of es) one old room new is few countable same changed);
    kept =
        all-insert (is_kept (next + 1)) last es below (all-weaker (is_kept next) (is_kept (next + 1)) later es kept)
        (and-both _ _ (equal-yes (mark_of one.unique) (mark_of one.unique) refl) (below-yes next (next + 1) (omega arith)));
  }

mapped-some : (k : ℕ × ℕ) (o : Option Entry) → option_map (λ (e : Entry). e.0) o ≡ Some k → (found : Entry) × (o ≡ Some found) × (found.0 ≡ k)
mapped-some k None is = absurd cc
mapped-some k (Some e) is = (e, refl, cc)

mapped-is : (o : Option Entry) → is_some (option_map (λ (e : Entry). e.0) o) ≡ is_some o
mapped-is None = refl
mapped-is (Some e) = refl

looked-up : (test : ℕ × ℕ → Bool) (es : List Entry) → is_some (lookup test es) ≡ list_any (λ (e : Entry). test e.0) es
looked-up test [] = refl
looked-up test (e ∷ es) = by (test e.0) (looked-up test es)
  where
    by : (b : Bool) → is_some (lookup test es) ≡ list_any (λ (e : Entry). test e.0) es
        → is_some (cond b (Some e.1) (lookup test es)) ≡ b || list_any (λ (e : Entry). test e.0) es
    by true rest = refl
    by false rest = rest

-- an equal record is in where one is found
pub found-in : (one : CvrRecord) (next : ℕ) (es : List Entry) → list_all (is_kept next) es ≡ true
    → is_some (option_map (λ (e : Entry). e.0) (first_equal one next es)) ≡ list_any (same_record one) (records_of es)
found-in one next es kept =
    mapped-is (first_equal one next es) ∙ found-any one next es kept ∙ sym (any-in_order (λ (e : Entry). same_record one e.1) es)
    ∙ any-map (same_record one) (λ (e : Entry). e.1) (in_order es)

-- a record that is taken out
module _ (one : CvrRecord) (next : ℕ) (es : List Entry) (kept : list_all (is_kept next) es ≡ true) (sorted : IsStrictlySortedBy key_cmp (keys_of es))
    (k : ℕ × ℕ) (is : option_map (λ (e : Entry). e.0) (first_equal one next es) ≡ Some k) where
  first : (list_any (λ (e : Entry). at_key k e.0) es ≡ true) × (list_all (fits (same_record one) k) es ≡ true)
  first =
      let found = mapped-some k (first_equal one next es) is in
      subst (λ (k : ℕ × ℕ). (list_any (λ (e : Entry). at_key k e.0) es ≡ true) × (list_all (fits (same_record one) k) es ≡ true)) found.2
      (found-first one next found.0 es kept sorted found.1)

  pub found-there : is_some (lookup (at_key k) es) ≡ true
  found-there = looked-up (at_key k) es ∙ first.0

  pub records-less : records_of (remove_entry (at_key k) es) ≡ without_first one (records_of es)
  records-less =
      ap values_of (in_order-removed k es sorted)
      ∙ values-removed (same_record one) k (in_order es) (in_order-ascends es) (any-in_order (λ (e : Entry). at_key k e.0) es ∙ first.0)
      (all-in_order (fits (same_record one) k) es ∙ first.1)

  abbrev place : ℕ
  place = position_or_len (same_record one) (records_of es)

  is-there : place < length (records_of es)
  is-there =
      below-from_yes place (length (records_of es))
      (any-place (same_record one) (records_of es) ∙ sym (found-in one next es kept) ∙ ap is_some is)

  module _ (gone : CvrRecord) (looked : lookup (at_key k) es ≡ Some gone) where
    split : (own : CvrRecord → ℕ) → sum_by own (remove (records_of es) place) + own gone ≡ sum_by own (records_of es)
    split own =
        let whole : unwrap_or (option_map own (lookup (at_key k) es)) 0 ≡ own gone =
        ap (λ (o : Option CvrRecord). unwrap_or (option_map own o) 0) looked in
        let left : sum_by own (remove (records_of es) place) ≡ sum_by own (values_of (remove_entry (at_key k) es)) =
        ap (sum_by own) (sym records-less) ∙ sum-in_order own (remove_entry (at_key k) es) in
        omega (arith, whole, left, sum-in_order own es, sum_by-remove_entry own (at_key k) es)

    pub gone-allows : {S : Type 0} (old : IndexMap Counted ℕ S) → IsSummed (records_of es) old → Allows Lower (record_shares gone) old
    gone-allows old summed = allows-less (records_of es) place gone is-there split old summed

    pub kept-less : {S : Type 0} (old new : IndexMap Counted ℕ S) → IsSummed (records_of es) old → IsChanged Lower (record_shares gone) old new
        → IsKept (remove_entry (at_key k) es) next new
    kept-less old new summed changed = record {
      summed =
          subst (λ (records : List CvrRecord). IsSummed records new) (sym records-less)
          (summed-less (records_of es) place gone is-there split old new summed changed);
      kept = all-removed (is_kept next) (at_key k) es kept;
    }
