-- Places that were put in order without repeats.
use Rattle.std.proofs.Common.{◌≡◌, ℕ, ◌==◌, List, arith}
use Rattle.std.specs.List.{dedup}
use Rattle.std.specs.List.Sorted.{IsSorted, IsPermutation}
use Rattle.std.specs.Ordering.{nat_cmp, eq_by_cmp}
use Rattle.std.proofs.lemmas.Bool.Decides.{nat_tests}
use Rattle.std.proofs.lemmas.Cmp.{nat_cmp_total}
use Rattle.std.proofs.lemmas.List.Kept.{Contains-dedup_nat, Contains-from_dedup, IsStrictlySortedBy-dedup}
use Rattle.std.proofs.lemmas.List.Sorted.{Contains-permutation, IsPermutation-sym}
use Rattle.vx_audit.specs.Ascending.{IsAscending}

nat_same : (x y : ℕ) → (x == y) ≡ eq_by_cmp nat_cmp x y
nat_same x y = grind (arith, nat_tests)

pub places-in_order : (places sorted now : List ℕ) → IsPermutation places sorted → IsSorted nat_cmp sorted → now ≡ dedup (λ x y. x == y) sorted
    → IsAscending places now
places-in_order places sorted now moved up is = record {
  ordered = rw is (IsStrictlySortedBy-dedup nat_cmp_total nat_same sorted up);
  same = λ place. (
    λ at. Contains-permutation sorted places place (IsPermutation-sym places sorted moved) (Contains-from_dedup (λ x y. x == y) sorted place (rw is at at)),
    λ at. rw is (Contains-dedup_nat sorted place (Contains-permutation places sorted place moved at)),
  );
}
