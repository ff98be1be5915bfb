-- The cells of sums, put in order, are those of which there are votes.
use Rattle.std.proofs.Common.{◌≡◌, ℕ, ◌+◌, ◌<◌, Bool, true, false, cond, ◌==◌, ◌&&◌, List, [], ◌∷◌, ◌++◌, Some, take, refl, ap, sym, subst, ◌∙◌, arith, append_assoc}
use Rattle.std.specs.Prelude.{All, Contains, Option, slice_get}
use Rattle.std.specs.Cmp.{IsEquivalence, IsTotalOrder}
use Rattle.std.specs.List.{AllByRecursion, IsDistinct, dedup, flat_map}
use Rattle.std.specs.List.Sorted.{IsPermutation, IsSorted}
use Rattle.std.specs.Map.{keys_of, lookup}
use Rattle.std.specs.Option.{unwrap_or}
use Rattle.std.specs.Ordering.{is_eq, nat_cmp, ordering_then}
use Rattle.std.proofs.lemmas.Bool.Decides.{nat_tests}
use Rattle.std.proofs.lemmas.Cmp.{and_equiv, nat_cmp_total, nat_eq_equiv, on_equiv, on_total, then_total}
use Rattle.std.proofs.lemmas.List.Elements.{All-contains, All-contains_itself, All-from_recursion, All-weaker, Contains-append_left, Contains-append_right, recursion_from_All}
use Rattle.std.proofs.lemmas.List.Kept.{Contains-dedup, Contains-from_dedup, IsStrictlySortedBy-dedup}
use Rattle.std.proofs.lemmas.List.Sorted.{Contains-permutation, IsPermutation-sym}
use Rattle.std.proofs.lemmas.Map.Views.{lookup-from_Contains}
use Rattle.vx_base.proofs.Booleans.{and-left, and-right}
use Rattle.vx_base.proofs.Lists.{flat_map-take_more}
use Rattle.vx_base.proofs.Numbers.{equal-from_yes}
use Rattle.vx_tally.specs.declared.sums.Counted.{Counted}
use Rattle.vx_tally.specs.declared.sums.Counted.TheVariants.{Votes, VotesIn, Over, Under}
use Rattle.vx_tally.specs.Cells.{Cell, HaveVotes, cell_cmp}
use Rattle.vx_tally.specs.Running.{cell_by, cell_of, sum_in}
use Rattle.vx_tally.specs.Sums.{same_counted}
use Rattle.vx_tally.proofs.SameSums.{derived, derived-same, same-equal, same-self, same-turned}

-- ---- the order of cells

cell_total : IsTotalOrder cell_cmp
cell_total =
    then_total (then_total (on_total (λ (cell : Cell). cell.0) nat_cmp_total) (on_total (λ (cell : Cell). cell.1) nat_cmp_total))
    (on_total (λ (cell : Cell). cell.2) nat_cmp_total)

-- equal cells
abbrev same_cell : Cell → Cell → Bool
same_cell x y = (x.0 == y.0 && x.1 == y.1) && x.2 == y.2

same_numbers : (a b c d e f : ℕ) → ((a == d && b == e) && c == f) ≡ is_eq (ordering_then (ordering_then (nat_cmp a d) (nat_cmp b e)) (nat_cmp c f))
same_numbers a b c d e f = grind (arith, nat_tests)

same_equiv : IsEquivalence same_cell
same_equiv =
    and_equiv (and_equiv (on_equiv (λ (cell : Cell). cell.0) nat_eq_equiv) (on_equiv (λ (cell : Cell). cell.1) nat_eq_equiv))
    (on_equiv (λ (cell : Cell). cell.2) nat_eq_equiv)

same_is : (x y : Cell) → same_cell x y ≡ true → x ≡ y
same_is x y same =
    let front = and-left _ _ same in
    let first : x.0 ≡ y.0 = equal-from_yes x.0 y.0 (and-left _ _ front) in
    let second : x.1 ≡ y.1 = equal-from_yes x.1 y.1 (and-right (x.0 == y.0) _ front) in
    let third : x.2 ≡ y.2 = equal-from_yes x.2 y.2 (and-right (x.0 == y.0 && x.1 == y.1) _ same) in
    ap {B = Cell} (λ (n : ℕ). (n, x.1, x.2)) first ∙ ap {B = Cell} (λ (n : ℕ). (y.0, n, x.2)) second ∙ ap {B = Cell} (λ (n : ℕ). (y.0, y.1, n)) third

-- ---- the cells of sums

-- a sum that is above 0 has its cell
of-sum : (u c s n : ℕ) → 0 < n → Contains {X = Cell} (cell_by (VotesIn u c s) n) (u, c, s)
of-sum u c s n some = by (n == 0) refl
  where
    by : (b : Bool) → (n == 0) ≡ b → Contains {X = Cell} (cond b [] ((u, c, s) ∷ [])) (u, c, s)
    by true e = absurd (omega (arith, some, equal-from_yes n 0 e))
    by false e = (0, omega arith, refl)

all-there : (sums : List (Counted × ℕ)) (u c s : ℕ) → 0 < sum_in sums (VotesIn u c s) → Contains {X = Cell} (flat_map cell_of sums) (u, c, s)
all-there [] u c s some = absurd (omega (arith, some))
all-there (entry ∷ sums) u c s some = by (same_counted (VotesIn u c s) entry.0) refl (all-there sums u c s) some
  where
    by : (b : Bool) → same_counted (VotesIn u c s) entry.0 ≡ b → (0 < sum_in sums (VotesIn u c s) → Contains {X = Cell} (flat_map cell_of sums) (u, c, s))
        → 0 < unwrap_or (cond b (Some entry.1) (lookup (same_counted (VotesIn u c s)) sums)) 0
        → Contains {X = Cell} (cell_of entry ++ flat_map cell_of sums) (u, c, s)
    by true same rest some =
        Contains-append_left {X = Cell} (cell_of entry) (flat_map cell_of sums) (u, c, s)
        (subst (λ (key : Counted). Contains {X = Cell} (cell_by key entry.1) (u, c, s)) (same-equal (VotesIn u c s) entry.0 same) (of-sum u c s entry.1 some))
    by false same rest some = Contains-append_right {X = Cell} (cell_of entry) (flat_map cell_of sums) (u, c, s) (rest some)

same_counted_equiv : IsEquivalence same_counted
same_counted_equiv = record {
  refl = same-self;
  symm = same-turned;
  congr = λ one other third same. ap (λ (key : Counted). same_counted key third) (same-equal one other same);
}

each-both : {X : Type 0} (P : X → Type 0) (xs ys : List X) → AllByRecursion P xs → AllByRecursion P ys → AllByRecursion P (xs ++ ys)
each-both P [] ys front rest = rest
each-both P (x ∷ xs) ys front rest = (front.0, each-both P xs ys front.1 rest)

module _ (sums : List (Counted × ℕ)) (unique : IsDistinct derived (keys_of sums)) where
  abbrev HasVotes : Cell → Type 0
  HasVotes cell = 0 < sum_in sums (VotesIn cell.0 cell.1 cell.2)

  distinct : IsDistinct same_counted (keys_of sums)
  distinct = subst (λ (eq : Counted → Counted → Bool). IsDistinct eq (keys_of sums)) (λ i one other. derived-same one other i) unique

  looked : AllByRecursion (λ (entry : Counted × ℕ). lookup (same_counted entry.0) sums ≡ Some entry.1) sums
  looked =
      recursion_from_All (λ (entry : Counted × ℕ). lookup (same_counted entry.0) sums ≡ Some entry.1) sums
      (All-weaker (Contains sums) (λ (entry : Counted × ℕ). lookup (same_counted entry.0) sums ≡ Some entry.1)
      (λ entry there. lookup-from_Contains same_counted_equiv entry.0 entry.1 sums distinct there) sums (All-contains_itself sums))

  one-votes : (key : Counted) (n : ℕ) → lookup (same_counted key) sums ≡ Some n → AllByRecursion HasVotes (cell_by key n)
  one-votes (VotesIn u c s) n is = by (n == 0) refl
    where
      by : (b : Bool) → (n == 0) ≡ b → AllByRecursion {X = Cell} HasVotes (cond b [] ((u, c, s) ∷ []))
      by true e = tt
      by false e =
          let sum : sum_in sums (VotesIn u c s) ≡ n = ap (λ (o : Option ℕ). unwrap_or o 0) is in
          let some : 0 < n = grind (arith, nat_tests) in
          (omega (arith, sum, some), tt)
  one-votes (Votes c s) n is = tt
  one-votes (Over c) n is = tt
  one-votes (Under c) n is = tt

  all-votes : (entries : List (Counted × ℕ)) → AllByRecursion (λ (entry : Counted × ℕ). lookup (same_counted entry.0) sums ≡ Some entry.1) entries
      → AllByRecursion HasVotes (flat_map cell_of entries)
  all-votes [] each = tt
  all-votes (entry ∷ entries) each =
      each-both HasVotes (cell_of entry) (flat_map cell_of entries) (one-votes entry.0 entry.1 each.0) (all-votes entries each.1)

  -- the cells in order, each once
  pub cells-voted : (sorted cells : List Cell) → IsPermutation (flat_map cell_of sums) sorted → IsSorted cell_cmp sorted → cells ≡ dedup same_cell sorted
      → HaveVotes (λ unit contest selection. sum_in sums (VotesIn unit contest selection)) cells
  cells-voted sorted cells moved up is = record {
    ordered = rw is (IsStrictlySortedBy-dedup cell_total (λ x y. same_numbers x.0 x.1 x.2 y.0 y.1 y.2) sorted up);
    each =
        All-weaker (Contains cells) HasVotes
        (λ cell there.
        All-contains HasVotes (flat_map cell_of sums) cell
        (All-from_recursion HasVotes (flat_map cell_of sums) (all-votes sums looked))
        (Contains-permutation sorted (flat_map cell_of sums) cell (IsPermutation-sym (flat_map cell_of sums) sorted moved)
        (Contains-from_dedup same_cell sorted cell (subst (λ (all : List Cell). Contains all cell) is there))))
        cells (All-contains_itself cells);
    has = λ cell some.
        rw is (Contains-dedup same_equiv same_is sorted cell
        (Contains-permutation (flat_map cell_of sums) sorted cell moved (all-there sums cell.0 cell.1 cell.2 some)));
  }

-- the loop's step: the cell of one sum more
pub cells-next : (sums : List (Counted × ℕ)) (i : ℕ) (entry : Counted × ℕ) → slice_get sums i ≡ Some entry → (old so_far now : List Cell)
    → so_far ≡ old ++ flat_map cell_of (take i sums) → now ≡ so_far ++ cell_of entry → now ≡ old ++ flat_map cell_of (take (i + 1) sums)
cells-next sums i entry there old so_far now before step =
    step
    ∙ ap (λ (front : List Cell). front ++ cell_of entry) before
    ∙ append_assoc old (flat_map cell_of (take i sums)) (cell_of entry)
    ∙ ap (λ (more : List Cell). old ++ more) (sym (flat_map-take_more cell_of sums i entry there))
