-- Ballots that come onto piles.
use Rattle.std.proofs.Common.{◌≡◌, ◌≢◌, ◌⊎◌, inl, inr, ℕ, zero, suc, ◌+◌, ◌-◌, ◌<◌, ◌≤◌, ◌==◌, Bool, true, false, cond, List, [], ◌∷◌, ◌++◌, length, take, map, set, get_or, refl, ap, sym, ◌∙◌, subst, arith, get_or-set_other, get_or-set_same}
use Rattle.std.specs.Prelude.{◌&&◌, slice_index_or, Option, Some, All, count_by, is_none}
use Rattle.std.specs.Option.{option_map_or}
use Rattle.std.proofs.lemmas.Option.{same_Some, slice_get-get_or}
use Rattle.std.proofs.lemmas.List.Sums.{sum_by_push, sum_by-append, sum_by_more, sum_by-take-le}
use Rattle.std.proofs.lemmas.List.Elements.{All-push}
use Rattle.std.proofs.lemmas.List.{take_more}
use Rattle.vx_base.proofs.Lists.{map-push}
use Rattle.vx_base.proofs.Numbers.{equal-yes, equal-no}
use Rattle.vx_rounds.proofs.Counts.{same_or}
use Rattle.vx_rounds.specs.declared.choosing.Choice.{Choice}
use Rattle.vx_rounds.specs.declared.piles.PiledBallot.{PiledBallot}
use Rattle.vx_rounds.specs.declared.piles.Piles.{Piles}
use Rattle.vx_rounds.specs.Rankings.{ranking_at, most_steps}
use Rattle.vx_rounds.specs.Rounds.{choice_of, is_for, is_exhausted}
use Rattle.vx_rounds.specs.Piles.{pile_at, stands_in, count_on, left_on, LiesFor, IsChosen, Laid}

-- a candidate that stands has a number
pub standing-within : (bits : List Bool) (c : ℕ) → slice_index_or bits c false ≡ true → c < length bits
standing-within [] zero h = absurd cc
standing-within [] (suc c) h = absurd cc
standing-within (b ∷ bits) zero h = omega arith
standing-within (b ∷ bits) (suc c) h = omega (arith, standing-within bits c h)

-- what lies at a place of a list, whatever is said for none
pub other-default : {X : Type 0} (xs : List X) (i : ℕ) (d e : X) → i < length xs → get_or xs i d ≡ get_or xs i e
other-default xs i d e h = same_Some (get_or xs i d) (get_or xs i e) (sym (slice_get-get_or xs i d h) ∙ slice_get-get_or xs i e h)

-- the same bits say that the same candidates stand
pub same-stands : (old new : Piles) → new.standing.items ≡ old.standing.items → stands_in new ≡ stands_in old
same-stands old new e = ap {B = ℕ → Bool} (λ (bits : List Bool) (c : ℕ). slice_index_or bits c false) e

-- the test of a choice
pub is_for-choice : (stands : ℕ → Bool) (c k : ℕ) (r : List ℕ) → choice_of stands r ≡ Some k → is_for stands c r ≡ (k == c)
is_for-choice stands c k r e = ap (λ (o : Option ℕ). option_map_or (λ n. n == c) o false) e

-- a test and one that is known
pub and_true : (a b : Bool) → b ≡ true → a && b ≡ a
and_true true b e = e
and_true false b e = refl

pub and_false : (a b : Bool) → b ≡ false → a && b ≡ false
and_false true b e = e
and_false false b e = refl

-- what one ballot more counts
pub one-more : (stands : ℕ → Bool) (test : List ℕ → Bool) (c k : ℕ) (r : List ℕ) → choice_of stands r ≡ Some k → k ≡ c →
    count_by (λ ranking. test ranking && is_for stands c ranking) (r ∷ []) ≡ cond (test r) 1 0
one-more stands test c k r e same =
    ap (λ (b : Bool). 0 + cond b 1 0) (and_true (test r) (is_for stands c r) (is_for-choice stands c k r e ∙ equal-yes k c same)) ∙ omega arith

pub no-more : (stands : ℕ → Bool) (test : List ℕ → Bool) (c k : ℕ) (r : List ℕ) → choice_of stands r ≡ Some k → k ≢ c →
    count_by (λ ranking. test ranking && is_for stands c ranking) (r ∷ []) ≡ 0
no-more stands test c k r e other =
    ap (λ (b : Bool). 0 + cond b 1 0) (and_false (test r) (is_for stands c r) (is_for-choice stands c k r e ∙ equal-no k c other)) ∙ omega arith

-- a ballot came onto the pile of its choice
module _ (rankings : List (List ℕ)) (old new : Piles) (ballot : ℕ) (choice : Choice)
    (e : new.piles.items ≡ set old.piles.items choice.candidate (pile_at old choice.candidate ++ record { ballot = ballot; place = choice.place } ∷ []))
    (within : choice.candidate < length old.piles.items)
    (chooses : choice_of (stands_in old) (ranking_at rankings ballot) ≡ Some choice.candidate)
    (is : IsChosen rankings (stands_in old) ballot choice) where
  pile_same : (c : ℕ) → choice.candidate ≡ c → pile_at new c ≡ pile_at old c ++ record { ballot = ballot; place = choice.place } ∷ []
  pile_same c same =
      ap (λ (ps : List (List PiledBallot)). slice_index_or ps c []) e
      ∙ subst (λ (k : ℕ). get_or (set old.piles.items choice.candidate
      (pile_at old choice.candidate ++ record { ballot = ballot; place = choice.place } ∷ [])) k [] ≡
      pile_at old k ++ record { ballot = ballot; place = choice.place } ∷ []) same
      (rw get_or-set_same)

  pile_other : (c : ℕ) → choice.candidate ≢ c → pile_at new c ≡ pile_at old c
  pile_other c other =
      let apart : c ≢ choice.candidate = λ h. other (sym h) in
      ap (λ (ps : List (List PiledBallot)). slice_index_or ps c []) e ∙ rw get_or-set_other

  laid_counted : (c : ℕ) (test : List ℕ → Bool) → (choice.candidate ≡ c) ⊎ (choice.candidate ≢ c) →
      count_on rankings test (pile_at new c) ≡ count_on rankings test (pile_at old c) + count_by
      (λ ranking. test ranking && is_for (stands_in old) c ranking) (ranking_at rankings ballot ∷ [])
  laid_counted c test (inl same) =
      ap (count_on rankings test) (pile_same c same)
      ∙ sum_by_push (λ (piled : PiledBallot). cond (test (ranking_at rankings piled.ballot)) 1 0) (pile_at old c)
      (record { ballot = ballot; place = choice.place })
      ∙ ap (λ n. count_on rankings test (pile_at old c) + n) (sym (one-more (stands_in old) test c choice.candidate (ranking_at rankings ballot) chooses same))
  laid_counted c test (inr other) =
      let none = no-more (stands_in old) test c choice.candidate (ranking_at rankings ballot) chooses other in
      ap (count_on rankings test) (pile_other c other) ∙ omega (arith, none)

  laid_placed : (c : ℕ) → (choice.candidate ≡ c) ⊎ (choice.candidate ≢ c) → All (LiesFor rankings (stands_in old) c) (pile_at old c) →
      All (LiesFor rankings (stands_in old) c) (pile_at new c)
  laid_placed c (inl same) each =
      subst (λ (pile : List PiledBallot). All (LiesFor rankings (stands_in old) c) pile) (sym (pile_same c same))
      (All-push (LiesFor rankings (stands_in old) c) (pile_at old c) (record { ballot = ballot; place = choice.place }) each
      (record { passed = is.passed; named = is.named ∙ ap (λ (n : ℕ). Some n) same }))
  laid_placed c (inr other) each =
      subst (λ (pile : List PiledBallot). All (LiesFor rankings (stands_in old) c) pile) (sym (pile_other c other)) each

  laid_exhausted : new.exhausted ≡ old.exhausted → new.exhausted ≡ old.exhausted + count_by (is_exhausted (stands_in old)) (ranking_at rankings ballot ∷ [])
  laid_exhausted same =
      let none : count_by (is_exhausted (stands_in old)) (ranking_at rankings ballot ∷ []) ≡ 0 =
      ap (λ (o : Option ℕ). 0 + cond (is_none o) 1 0) chooses in
      omega (arith, none, same)

  pub laid-pushed : new.standing.items ≡ old.standing.items → new.exhausted ≡ old.exhausted →
      Laid rankings (stands_in old) old new (ranking_at rankings ballot ∷ [])
  laid-pushed standing same = record {
    standing = standing;
    counted = λ c h test. laid_counted c test (same_or choice.candidate c);
    placed = λ c h. laid_placed c (same_or choice.candidate c);
    exhausted = laid_exhausted same;
  }

-- ballots came, and then others
pub laid-then : (rankings : List (List ℕ)) (stands : ℕ → Bool) (a b c : Piles) (xs ys : List (List ℕ)) → Laid rankings stands a b xs →
    Laid rankings stands b c ys → Laid rankings stands a c (xs ++ ys)
laid-then rankings stands a b c xs ys h k = record {
  standing = k.standing ∙ h.standing;
  counted = λ n yes_ test. omega (
    arith,
    h.counted n yes_ test,
    k.counted n yes_ test,
    sum_by-append (λ (ranking : List ℕ). cond (test ranking && is_for stands n ranking) 1 0) xs ys,
  );
  placed = λ n yes_ each. k.placed n yes_ (h.placed n yes_ each);
  exhausted = omega (arith, h.exhausted, k.exhausted, sum_by-append (λ (ranking : List ℕ). cond (is_exhausted stands ranking) 1 0) xs ys);
}

-- what is laid while the same candidates stand
pub laid-along : (rankings : List (List ℕ)) (first a b : Piles) (xs : List (List ℕ)) → a.standing.items ≡ first.standing.items →
    Laid rankings (stands_in a) a b xs → Laid rankings (stands_in first) a b xs
laid-along rankings first a b xs e h = subst (λ (stands : ℕ → Bool). Laid rankings stands a b xs) (same-stands first a e) h

-- one ballot more of all
pub all-next : (rankings : List (List ℕ)) (first a b : Piles) (i : ℕ) → i < length rankings → Laid rankings (stands_in first) first a (take i rankings) →
    Laid rankings (stands_in a) a b (ranking_at rankings i ∷ []) → Laid rankings (stands_in first) first b (take (i + 1) rankings)
all-next rankings first a b i within h k =
    subst (λ (xs : List (List ℕ)). Laid rankings (stands_in first) first b xs) (sym (take_more rankings i [] within))
    (laid-then rankings (stands_in first) first a b (take i rankings) (ranking_at rankings i ∷ []) h
    (laid-along rankings first a b (ranking_at rankings i ∷ []) h.standing k))

-- one ballot more of a pile
pub again-next : (rankings : List (List ℕ)) (first a b : Piles) (pile : List PiledBallot) (i : ℕ) (d : PiledBallot) → i < length pile →
    Laid rankings (stands_in first) first a (map (λ (piled : PiledBallot). ranking_at rankings piled.ballot) (take i pile)) →
    Laid rankings (stands_in a) a b (ranking_at rankings (get_or pile i d).ballot ∷ []) →
    Laid rankings (stands_in first) first b (map (λ (piled : PiledBallot). ranking_at rankings piled.ballot) (take (i + 1) pile))
again-next rankings first a b pile i d within h k =
    let f : PiledBallot → List ℕ = λ piled. ranking_at rankings piled.ballot in
    subst (λ (xs : List (List ℕ)). Laid rankings (stands_in first) first b xs)
    (sym (ap (map f) (take_more pile i d within) ∙ map-push f (take i pile) (get_or pile i d)))
    (laid-then rankings (stands_in first) first a b (map f (take i pile)) (f (get_or pile i d) ∷ []) h
    (laid-along rankings first a b (f (get_or pile i d) ∷ []) h.standing k))

-- how many more places one ballot more can be asked for
pub left-next : (rankings : List (List ℕ)) (pile : List PiledBallot) (i : ℕ) (d : PiledBallot) → i < length pile →
    left_on rankings (take (i + 1) pile) ≡ left_on rankings (take i pile) + (length (ranking_at rankings (get_or pile i d).ballot) - (get_or pile i d).place)
left-next rankings pile i d within = sum_by_more (λ (piled : PiledBallot). length (ranking_at rankings piled.ballot) - piled.place) pile i d within

pub left-le : (rankings : List (List ℕ)) (pile : List PiledBallot) (i : ℕ) → left_on rankings (take i pile) ≤ left_on rankings pile
left-le rankings pile i = sum_by-take-le (λ (piled : PiledBallot). length (ranking_at rankings piled.ballot) - piled.place) pile i

pub most-next : (rankings : List (List ℕ)) (i : ℕ) → i < length rankings →
    most_steps (take (i + 1) rankings) ≡ most_steps (take i rankings) + (length (ranking_at rankings i) + 1)
most-next rankings i within = sum_by_more (λ (ranking : List ℕ). length ranking + 1) rankings i [] within
