-- The first entry with an equal record, found among those with its mark.
use Rattle.std.proofs.Common.{◌≡◌, ℕ, ◌<◌, Bool, true, false, cond, not, ◌&&◌, ◌==◌, List, [], ◌∷◌, Some, refl, sym, ap, subst, ◌∙◌, arith}
use Rattle.std.specs.Prelude.{find, filter, is_some, nat_le}
use Rattle.std.specs.List.{list_any, list_all, AllByRecursion}
use Rattle.std.specs.List.Sorted.{IsStrictlySortedBy}
use Rattle.std.specs.Map.{keys_of}
use Rattle.std.specs.Ordering.{is_eq, nat_cmp, ordering_then}
use Rattle.std.specs.declared.cmp.Ordering.TheVariants.{Less}
use Rattle.std.specs.declared.ops.Bound.TheVariants.{Included, Excluded}
use Rattle.std.specs.BTreeMap.Range.{range_contains}
use Rattle.std.proofs.lemmas.Bool.Decides.{nat_tests}
use Rattle.std.proofs.lemmas.Slice.Eq.{bytes_eq-Decides}
use Rattle.std.proofs.lemmas.Map.Keys.{sorted_head, sorted_tail}
use Rattle.vx_base.proofs.Booleans.{and-both, and-left, and-right, or-left, or-right, not-both}
use Rattle.vx_base.proofs.Numbers.{equal-yes, equal-from_yes, at_most-yes, below-from_yes}
use Rattle.vx_tally.specs.declared.report.CvrRecord.{CvrRecord}
use Rattle.vx_tally.specs.Totals.{same_record}
use Rattle.vx_tally.specs.Kept.{Entry, key_cmp, mark_of, is_kept, first_equal}
use Rattle.vx_tally.proofs.Numbered.{at_key, fits, none-behind}

within : (m n next : ℕ) → n < next → range_contains key_cmp (Included (m, 0)) (Excluded (m, next)) (m, n) ≡ true
within m n next lt = grind (arith, nat_tests)

key-self : (m n : ℕ) → is_eq (ordering_then (nat_cmp m m) (nat_cmp n n)) ≡ true
key-self m n = grind (arith, nat_tests)

number-above : (a b c d : ℕ) → ordering_then (nat_cmp a c) (nat_cmp b d) ≡ Less → a ≡ c → b < d
number-above a b c d e f = grind (arith, nat_tests)

some-same : (x y : Entry) → Some x ≡ Some y → x ≡ y
some-same x y e = cc

module _ (one : CvrRecord) (next : ℕ) where
  -- an equal record has the mark
  same-mark : (e : Entry) → same_record one e.1 ≡ true → is_kept next e ≡ true → e.0.0 ≡ mark_of one.unique
  same-mark e same kept =
      equal-from_yes e.0.0 (mark_of e.1.unique) (and-left _ _ kept)
      ∙ sym (ap mark_of ((bytes_eq-Decides one.unique e.1.unique).0 (and-left _ _ same)))

  abbrev is_marked : Entry → Bool
  is_marked e = range_contains key_cmp (Included (mark_of one.unique, 0)) (Excluded (mark_of one.unique, next)) e.0

  same-marked : (e : Entry) → same_record one e.1 ≡ true → is_kept next e ≡ true → is_marked e ≡ true
  same-marked e same kept =
      ap (λ m. range_contains key_cmp (Included (mark_of one.unique, 0)) (Excluded (mark_of one.unique, next)) (m, e.0.1)) (same-mark e same kept)
      ∙ within (mark_of one.unique) e.0.1 next (below-from_yes e.0.1 next (and-right (e.0.0 == mark_of e.1.unique) _ kept))

  pub found-any : (es : List Entry) → list_all (is_kept next) es ≡ true
      → is_some (first_equal one next es) ≡ list_any (λ (e : Entry). same_record one e.1) es
  found-any [] kept = refl
  found-any (e ∷ es) kept = by (is_marked e) (same_record one e.1) refl refl (found-any es (and-right (is_kept next e) _ kept))
    where
      rest : List Entry
      rest = filter is_marked es

      by : (b c : Bool) → is_marked e ≡ b → same_record one e.1 ≡ c
          → is_some (find (λ (e : Entry). same_record one e.1) rest) ≡ list_any (λ (e : Entry). same_record one e.1) es
          → is_some (find (λ (e : Entry). same_record one e.1) (cond b (e ∷ rest) rest)) ≡ list_any (λ (e : Entry). same_record one e.1) (e ∷ es)
      by true true m f more = rw f refl
      by true false m f more = rw f more
      by false true m f more = absurd (not-both (is_marked e) (same-marked e f (and-left _ _ kept)) m)
      by false false m f more = rw f more

  -- behind an entry with an equal record each fits
  behind : (first : Entry) → same_record one first.1 ≡ true → is_kept next first ≡ true → (es : List Entry) → list_all (is_kept next) es ≡ true
      → AllByRecursion (λ (other : ℕ × ℕ). key_cmp first.0 other ≡ Less) (keys_of es) → list_all (fits (same_record one) first.0) es ≡ true
  behind first same own [] kept above = refl
  behind first same own (e ∷ es) kept above =
      and-both (fits (same_record one) first.0 e) _ (by (same_record one e.1) refl)
      (behind first same own es (and-right (is_kept next e) _ kept) above.1)
    where
      by : (b : Bool) → same_record one e.1 ≡ b → cond b (first.0.0 == e.0.0 && nat_le first.0.1 e.0.1) (not (at_key first.0 e.0)) ≡ true
      by true is =
          let marks = same-mark first same own ∙ sym (same-mark e is (and-left _ _ kept)) in
          and-both (first.0.0 == e.0.0) _ (equal-yes first.0.0 e.0.0 marks)
          (at_most-yes first.0.1 e.0.1 (omega (arith, number-above first.0.0 first.0.1 e.0.0 e.0.1 above.0 marks)))
      by false is = ap (λ o. not (is_eq o)) above.0

  self : (e : Entry) (es : List Entry) → same_record one e.1 ≡ true → is_kept next e ≡ true → list_all (is_kept next) es ≡ true
      → AllByRecursion (λ (other : ℕ × ℕ). key_cmp e.0 other ≡ Less) (keys_of es)
      → (list_any (λ (other : Entry). at_key e.0 other.0) (e ∷ es) ≡ true) × (list_all (fits (same_record one) e.0) (e ∷ es) ≡ true)
  self e es same own kept above = (
    or-left _ _ (key-self e.0.0 e.0.1),
    and-both (fits (same_record one) e.0 e) _
        (ap (λ b. cond b (e.0.0 == e.0.0 && nat_le e.0.1 e.0.1) (not (at_key e.0 e.0))) same
        ∙ and-both _ _ (equal-yes e.0.0 e.0.0 refl) (at_most-yes e.0.1 e.0.1 (omega arith)))
        (behind e same own es kept above),
  )

  pub found-first : (found : Entry) (es : List Entry) → list_all (is_kept next) es ≡ true → IsStrictlySortedBy key_cmp (keys_of es)
      → first_equal one next es ≡ Some found
      → (list_any (λ (e : Entry). at_key found.0 e.0) es ≡ true) × (list_all (fits (same_record one) found.0) es ≡ true)
  found-first found [] kept sorted is = absurd cc
  found-first found (e ∷ es) kept sorted is =
      by (is_marked e) (same_record one e.1) refl refl
      (found-first found es (and-right (is_kept next e) _ kept) (sorted_tail key_cmp e.0 (keys_of es) sorted)) is
    where
      rest : List Entry
      rest = filter is_marked es

      above : AllByRecursion (λ (other : ℕ × ℕ). key_cmp e.0 other ≡ Less) (keys_of es)
      above = sorted_head key_cmp e.0 (keys_of es) sorted

      apart : (b : Bool) → at_key found.0 e.0 ≡ b → list_any (λ (e : Entry). at_key found.0 e.0) es ≡ true → not b ≡ true
      apart false same there = refl
      apart true same there = absurd (not-both _ there (none-behind found.0 e.0 es same above))

      later : same_record one e.1 ≡ false
          → (list_any (λ (e : Entry). at_key found.0 e.0) es ≡ true) × (list_all (fits (same_record one) found.0) es ≡ true)
          → (list_any (λ (e : Entry). at_key found.0 e.0) (e ∷ es) ≡ true) × (list_all (fits (same_record one) found.0) (e ∷ es) ≡ true)
      later other is = (
        or-right (at_key found.0 e.0) _ is.0,
        and-both (fits (same_record one) found.0 e) _
            (ap (λ b. cond b (found.0.0 == e.0.0 && nat_le found.0.1 e.0.1) (not (at_key found.0 e.0))) other ∙ apart (at_key found.0 e.0) refl is.0) is.1,
      )

      by : (b c : Bool) → is_marked e ≡ b → same_record one e.1 ≡ c
          → (first_equal one next es ≡ Some found
          → (list_any (λ (e : Entry). at_key found.0 e.0) es ≡ true) × (list_all (fits (same_record one) found.0) es ≡ true))
          → find (λ (e : Entry). same_record one e.1) (cond b (e ∷ rest) rest) ≡ Some found
          → (list_any (λ (e : Entry). at_key found.0 e.0) (e ∷ es) ≡ true) × (list_all (fits (same_record one) found.0) (e ∷ es) ≡ true)
      by true true m f more is =
          let here : e ≡ found = some-same e found (sym (ap (λ b. cond b (Some e) (find (λ (e : Entry). same_record one e.1) rest)) f) ∙ is) in
          subst (λ (found : Entry). (list_any (λ (other : Entry). at_key found.0 other.0) (e ∷ es) ≡ true)
          × (list_all (fits (same_record one) found.0) (e ∷ es) ≡ true)) here
          (self e es f (and-left _ _ kept) (and-right (is_kept next e) _ kept) above)
      by true false m f more is = later f (more (sym (ap (λ b. cond b (Some e) (find (λ (e : Entry). same_record one e.1) rest)) f) ∙ is))
      by false true m f more is = absurd (not-both (is_marked e) (same-marked e f (and-left _ _ kept)) m)
      by false false m f more is = later f (more is)
