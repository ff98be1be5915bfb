-- The first round's piles: all candidates stand.
use Rattle.std.proofs.Common.{◌≡◌, ◌^◌, ◌<◌, ℕ, zero, suc, Bool, true, false, List, [], length, get_or, replicate, refl, ap, sym, ◌∙◌, subst, arith}
use Rattle.std.specs.Prelude.{◌&&◌, All, count_by, nat_lt, slice_index_or}
use Rattle.std.proofs.lemmas.Bool.Decides.{nat_tests}
use Rattle.std.proofs.lemmas.List.Elements.{All-nil}
use Rattle.vx_base.proofs.Numbers.{below-yes, below-no}
use Rattle.vx_rounds.specs.declared.piles.PiledBallot.{PiledBallot}
use Rattle.vx_rounds.specs.declared.piles.Piles.{Piles}
use Rattle.vx_rounds.specs.Rounds.{is_for, is_exhausted}
use Rattle.vx_rounds.specs.Piles.{pile_at, stands_in, count_on, LiesFor, HasPiles, Laid, ArePiled}
use Rattle.vx_rounds.proofs.Piled.{same-stands}

empty_pile : (n c : ℕ) → ◌≡◌ {A = List PiledBallot} (get_or (replicate n []) c []) []
empty_pile zero c = refl
empty_pile (suc n) zero = refl
empty_pile (suc n) (suc c) = empty_pile n c

standing_at : (n c : ℕ) → slice_index_or (replicate n true) c false ≡ nat_lt c n
standing_at zero c = sym (below-no c 0 (omega arith))
standing_at (suc n) zero = sym (below-yes 0 (suc n) (omega arith))
standing_at (suc n) (suc c) = standing_at n c ∙ grind (arith, nat_tests)

-- at first those below the number of candidates stand
pub all-stand : (n : ℕ) (piles : Piles) → piles.standing.items ≡ replicate n true → stands_in piles ≡ (λ (c : ℕ). nat_lt c n)
all-stand n piles e =
    let at : (λ (c : ℕ). slice_index_or (replicate n true) c false) ≡ (λ (c : ℕ). nat_lt c n) = λ i c. standing_at n c i in
    ap {B = ℕ → Bool} (λ (bits : List Bool) (c : ℕ). slice_index_or bits c false) e ∙ at

length_all : (n : ℕ) → length (replicate n true) ≡ n
length_all zero = refl
length_all (suc n) = omega (arith, length_all n)

-- all ballots were laid on empty piles
module _ (n : ℕ) (rankings : List (List ℕ)) (old new : Piles) (piles : old.piles.items ≡ replicate n []) (none : old.exhausted ≡ 0)
    (laid : Laid rankings (stands_in old) old new rankings) where
  empty_at : (c : ℕ) → pile_at old c ≡ []
  empty_at c = ap (λ (ps : List (List PiledBallot)). slice_index_or ps c []) piles ∙ empty_pile n c

  first_counted : (c : ℕ) → stands_in old c ≡ true → (test : List ℕ → Bool) →
      count_on rankings test (pile_at new c) ≡ count_by (λ ranking. test ranking && is_for (stands_in old) c ranking) rankings
  first_counted c h test =
      let before = ap (count_on rankings test) (empty_at c) in
      omega (arith, laid.counted c h test, before)

  first_placed : (c : ℕ) → stands_in old c ≡ true → All (LiesFor rankings (stands_in old) c) (pile_at new c)
  first_placed c h =
      laid.placed c h (subst (λ (pile : List PiledBallot). All (LiesFor rankings (stands_in old) c) pile) (sym (empty_at c))
      (All-nil (LiesFor rankings (stands_in old) c)))

  pub started : length rankings < 2 ^ 32 → HasPiles new → old.standing.items ≡ replicate n true → ArePiled n rankings new
  started few has all = record {
    few = few;
    has_piles = has;
    all = ap length (laid.standing ∙ all) ∙ length_all n;
    counted = subst (λ (s : ℕ → Bool). (c : ℕ) → s c ≡ true → (test : List ℕ → Bool) →
        count_on rankings test (pile_at new c) ≡ count_by (λ ranking. test ranking && is_for s c ranking) rankings)
        (sym (same-stands old new laid.standing)) first_counted;
    placed = subst (λ (s : ℕ → Bool). (c : ℕ) → s c ≡ true → All (LiesFor rankings s c) (pile_at new c))
        (sym (same-stands old new laid.standing)) first_placed;
    exhausted = subst (λ (s : ℕ → Bool). new.exhausted ≡ count_by (is_exhausted s) rankings) (sym (same-stands old new laid.standing))
        (omega (arith, laid.exhausted, none));
  }
