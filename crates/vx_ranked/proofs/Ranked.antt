-- Ranks that are walked over.
use Rattle.std.proofs.Common.{◌≡◌, ℕ, ◌+◌, ◌<◌, suc, arith, Bool, true, false, cond, not, List, [], ◌∷◌, length, map, drop, take, get_or, Option, refl, sym, ap, subst, ◌∙◌}
use Rattle.std.specs.Prelude.{fold}
use Rattle.std.specs.List.{flat_map, before_first, prefix_len}
use Rattle.std.proofs.lemmas.List.{at_drop_more}
use Rattle.std.proofs.lemmas.List.Sums.{fold-append}
use Rattle.vx_center.specs.declared.rows.Final.{Final}
use Rattle.vx_ranked.specs.Rankings.{joined, named_by, ends_list, final_on}

-- the list behind some ranks
abbrev pub listed : List ℕ → List (Option Final) → List ℕ
listed ranking ranks = fold joined ranking (flat_map named_by (before_first ends_list ranks))

one-more : (n : ℕ) → 1 + n ≡ suc n
one-more n = omega arith

before-ends : {X : Type 0} (p : X → Bool) (x : X) (xs : List X) → p x ≡ true → before_first p (x ∷ xs) ≡ []
before-ends p x xs is = rw is refl

before-goes : {X : Type 0} (p : X → Bool) (x : X) (xs : List X) → p x ≡ false → before_first p (x ∷ xs) ≡ x ∷ before_first p xs
before-goes p x xs is = rw is (ap (λ (n : ℕ). take n (x ∷ xs)) (one-more (prefix_len (λ y. not (p y)) xs)))

-- a rank that ends the list
pub list-ends : (ranking : List ℕ) (rank : Option Final) (ranks : List (Option Final)) → ends_list rank ≡ true → listed ranking (rank ∷ ranks) ≡ ranking
list-ends ranking rank ranks is = ap (λ (some : List (Option Final)). fold joined ranking (flat_map named_by some)) (before-ends ends_list rank ranks is)

-- one that doesn't
pub list-goes : (ranking : List ℕ) (rank : Option Final) (ranks : List (Option Final)) → ends_list rank ≡ false → listed ranking (rank ∷ ranks) ≡ listed (fold joined ranking (named_by rank)) ranks
list-goes ranking rank ranks is =
    ap (λ (some : List (Option Final)). fold joined ranking (flat_map named_by some)) (before-goes ends_list rank ranks is)
    ∙ fold-append joined ranking (named_by rank) (flat_map named_by (before_first ends_list ranks))

-- a turn of a walk over the ranks
module _ (finals : List Final) (contests : List ℕ) (ranking : List ℕ) (i contest : ℕ) (lt : i < length contests) (is : contest ≡ get_or contests i contest)
    (total : List ℕ) (so_far : listed ranking (map (final_on finals) (drop i contests)) ≡ total) where
  rest : listed ranking (final_on finals contest ∷ map (final_on finals) (drop (i + 1) contests)) ≡ total
  rest =
      ap (λ (one : ℕ). listed ranking (map (final_on finals) (one ∷ drop (i + 1) contests))) is
      ∙ sym (at_drop_more (λ (left : List ℕ). listed ranking (map (final_on finals) left)) contests i contest lt) ∙ so_far

  pub turn-goes : ends_list (final_on finals contest) ≡ false → listed (fold joined ranking (named_by (final_on finals contest))) (map (final_on finals) (drop (i + 1) contests)) ≡ total
  turn-goes goes = sym (list-goes ranking (final_on finals contest) (map (final_on finals) (drop (i + 1) contests)) goes) ∙ rest

  not-ends : (ends goes : Bool) → goes ≡ true → goes ≡ not ends → ends ≡ false
  not-ends true goes is other = absurd cc
  not-ends false goes is other = refl

  -- the list goes on, with the candidate of the rank
  pub turn-took : (rank : Option Final) (goes : Bool) (now : List ℕ) → rank ≡ final_on finals contest → goes ≡ true → goes ≡ not (ends_list rank)
      → now ≡ cond (ends_list rank) ranking (fold joined ranking (named_by rank)) → listed now (map (final_on finals) (drop (i + 1) contests)) ≡ total
  turn-took rank goes now same goes_on told list =
      let ends : ends_list rank ≡ false = not-ends (ends_list rank) goes goes_on told in
      let Ends : Option Final → Type 0 = λ one. ends_list one ≡ false in
      let taken : now ≡ fold joined ranking (named_by (final_on finals contest)) =
      list ∙ ap (λ (b : Bool). cond b ranking (fold joined ranking (named_by rank))) ends ∙ ap (λ (one : Option Final). fold joined ranking (named_by one)) same in
      ap (λ (some : List ℕ). listed some (map (final_on finals) (drop (i + 1) contests))) taken ∙ turn-goes (subst Ends same ends)
