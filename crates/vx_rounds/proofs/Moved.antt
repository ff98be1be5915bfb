-- A candidate goes out, and the ballots of its pile are laid again.
use Rattle.std.proofs.Common.{◌≡◌, ◌≢◌, ◌⊎◌, inl, inr, ℕ, ◌+◌, ◌<◌, ◌==◌, Bool, true, false, cond, not, List, [], ◌∷◌, length, take, map, set, get_or, refl, ap, ap₂, sym, ◌∙◌, subst, arith, get_or-set_other, get_or-set_same, length-set}
use Rattle.std.specs.Prelude.{◌&&◌, find, slice_index_or, Option, Some, None, All, count_by, is_none}
use Rattle.std.specs.Option.{option_map_or}
use Rattle.std.proofs.lemmas.Option.{slice_get_within}
use Rattle.std.proofs.lemmas.List.Elements.{All-weaker}
use Rattle.vx_base.proofs.Booleans.{and-left, and-right}
use Rattle.vx_base.proofs.Numbers.{equal-yes, equal-no}
use Rattle.vx_rounds.specs.declared.piles.PiledBallot.{PiledBallot}
use Rattle.vx_rounds.specs.declared.piles.Piles.{Piles}
use Rattle.vx_rounds.specs.Rankings.{ranking_at}
use Rattle.vx_rounds.specs.Rounds.{choice_of, is_for, is_exhausted, without}
use Rattle.vx_rounds.specs.Piles.{pile_at, stands_in, count_on, IsPassed, LiesFor, LiesForNone, HasPiles, Laid, ArePiled}
use Rattle.vx_rounds.proofs.Choices.{passed-more}
use Rattle.vx_rounds.proofs.Counts.{same_or, sum_by-split, count_by-map, count_by-all}
use Rattle.vx_rounds.proofs.Piled.{is_for-choice, and_false, same-stands, standing-within}

choice_step : (b w : Bool) (x out : ℕ) (rest rest' : Option ℕ) → w ≡ b && not (x == out) → (x ≡ out) ⊎ (x ≢ out) → (rest ≡ Some out) ⊎ (rest' ≡ rest) →
    (cond b (Some x) rest ≡ Some out) ⊎ (cond w (Some x) rest' ≡ cond b (Some x) rest)
choice_step true w x out rest rest' e (inl same) ih = inl (ap (λ (n : ℕ). Some n) same)
choice_step true w x out rest rest' e (inr other) ih = inr (ap (λ (v : Bool). cond v (Some x) rest') (e ∙ ap not (equal-no x out other)))
choice_step false w x out rest rest' e which (inl h) = inl h
choice_step false w x out rest rest' e which (inr h) = inr (ap (λ (v : Bool). cond v (Some x) rest') e ∙ h)

-- a ballot counted for the one that goes out, or it counts for the same as before
pub choice-without : (stands : ℕ → Bool) (out : ℕ) (r : List ℕ) → (choice_of stands r ≡ Some out) ⊎ (choice_of (without stands out) r ≡ choice_of stands r)
choice-without stands out [] = inr refl
choice-without stands out (x ∷ xs) =
    choice_step (stands x) (without stands out x) x out (choice_of stands xs) (choice_of (without stands out) xs) refl (same_or x out)
    (choice-without stands out xs)

still_none : (stands : ℕ → Bool) (out : ℕ) (r : List ℕ) → (choice_of stands r ≡ Some out) ⊎ (choice_of (without stands out) r ≡ choice_of stands r) →
    find stands r ≡ None → find (without stands out) r ≡ None
still_none stands out r (inl h) none = absurd cc
still_none stands out r (inr h) none = h ∙ none

-- who isn't named among more isn't named among fewer
pub passed-still : (rankings : List (List ℕ)) (stands : ℕ → Bool) (out ballot place : ℕ) → IsPassed rankings stands ballot place →
    IsPassed rankings (without stands out) ballot place
passed-still rankings stands out ballot place h = record {
  there = h.there;
  none = still_none stands out (take place (ranking_at rankings ballot)) (choice-without stands out (take place (ranking_at rankings ballot))) h.none;
}

pub lies-still : (rankings : List (List ℕ)) (stands : ℕ → Bool) (out c : ℕ) (piled : PiledBallot) → LiesFor rankings stands c piled →
    LiesFor rankings (without stands out) c piled
lies-still rankings stands out c piled h = record { passed = passed-still rankings stands out piled.ballot piled.place h.passed; named = h.named }

-- the one that goes out doesn't stand
pub gone-out : (stands : ℕ → Bool) (out : ℕ) → without stands out out ≡ false
gone-out stands out = and_false (stands out) (not (out == out)) (ap not (equal-yes out out refl))

-- the ballots that lay for it lie for none
pub lies-none : (rankings : List (List ℕ)) (stands : ℕ → Bool) (out : ℕ) (piled : PiledBallot) → LiesFor rankings stands out piled →
    LiesForNone rankings (without stands out) piled
lies-none rankings stands out piled h = record {
  passed = record {
    there = h.passed.there;
    none = passed-more (without stands out) (ranking_at rankings piled.ballot) piled.place out
        (passed-still rankings stands out piled.ballot piled.place h.passed).none h.named (gone-out stands out);
  };
  within = slice_get_within (ranking_at rankings piled.ballot) piled.place out h.named;
}

out_constants : (t a : Bool) → cond (t && false) 1 0 + cond ((t && a) && true) 1 0 ≡ cond (t && a) 1 0
out_constants true true = refl
out_constants true false = refl
out_constants false a = refl

bits_out : (t a a' b : Bool) → a ≡ false → b ≡ true → cond (t && a) 1 0 + cond ((t && a') && b) 1 0 ≡ cond (t && a') 1 0
bits_out t a a' b ea eb = ap₂ (λ (u v : Bool). cond (t && u) 1 0 + cond ((t && a') && v) 1 0) ea eb ∙ out_constants t a'

kept_constants : (t a b : Bool) → a && b ≡ false → cond (t && a) 1 0 + cond ((t && a) && b) 1 0 ≡ cond (t && a) 1 0
kept_constants true true true h = absurd cc
kept_constants true true false h = refl
kept_constants true false b h = refl
kept_constants false a b h = refl

bits_kept : (t a a' b : Bool) → a' ≡ a → a && b ≡ false → cond (t && a) 1 0 + cond ((t && a') && b) 1 0 ≡ cond (t && a') 1 0
bits_kept t a a' b e h =
    ap (λ (u : Bool). cond (t && a) 1 0 + cond ((t && u) && b) 1 0) e ∙ kept_constants t a b h ∙ ap (λ (u : Bool). cond (t && u) 1 0) (sym e)

not_both : (c out k : ℕ) → c ≢ out → (k ≡ c) ⊎ (k ≢ c) → (k == c) && (k == out) ≡ false
not_both c out k apart (inl same) = and_false (k == c) (k == out) (equal-no k out (λ e. apart (sym same ∙ e)))
not_both c out k apart (inr other) = ap (λ (b : Bool). b && (k == out)) (equal-no k c other)

for_both : (c out : ℕ) (o : Option ℕ) → c ≢ out → option_map_or (λ n. n == c) o false && option_map_or (λ n. n == out) o false ≡ false
for_both c out None apart = refl
for_both c out (Some k) apart = not_both c out k apart (same_or k c)

none_for : (out : ℕ) (o : Option ℕ) → is_none o && option_map_or (λ n. n == out) o false ≡ false
none_for out None = refl
none_for out (Some k) = refl

-- a ballot counts for who stands on, or it did for the one that went out and does now
counts_one : (stands : ℕ → Bool) (out c : ℕ) (test : List ℕ → Bool) (r : List ℕ) → c ≢ out →
    (choice_of stands r ≡ Some out) ⊎ (choice_of (without stands out) r ≡ choice_of stands r) →
    cond (test r && is_for stands c r) 1 0 + cond ((test r && is_for (without stands out) c r) && is_for stands out r) 1 0 ≡
    cond (test r && is_for (without stands out) c r) 1 0
counts_one stands out c test r apart (inl e) =
    bits_out (test r) (is_for stands c r) (is_for (without stands out) c r) (is_for stands out r)
    (is_for-choice stands c out r e ∙ equal-no out c (λ h. apart (sym h)))
    (is_for-choice stands out out r e ∙ equal-yes out out refl)
counts_one stands out c test r apart (inr e) =
    bits_kept (test r) (is_for stands c r) (is_for (without stands out) c r) (is_for stands out r)
    (ap (λ (o : Option ℕ). option_map_or (λ n. n == c) o false) e)
    (for_both c out (choice_of stands r) apart)

exhausted_one : (stands : ℕ → Bool) (out : ℕ) (r : List ℕ) →
    (choice_of stands r ≡ Some out) ⊎ (choice_of (without stands out) r ≡ choice_of stands r) →
    cond (is_exhausted stands r) 1 0 + cond (is_exhausted (without stands out) r && is_for stands out r) 1 0 ≡ cond (is_exhausted (without stands out) r) 1 0
exhausted_one stands out r (inl e) =
    bits_out true (is_exhausted stands r) (is_exhausted (without stands out) r) (is_for stands out r)
    (ap (λ (o : Option ℕ). is_none o) e) (is_for-choice stands out out r e ∙ equal-yes out out refl)
exhausted_one stands out r (inr e) =
    bits_kept true (is_exhausted stands r) (is_exhausted (without stands out) r) (is_for stands out r)
    (ap (λ (o : Option ℕ). is_none o) e) (none_for out (choice_of stands r))

-- who stands when one is out stood before, and is another
stood : (stands : ℕ → Bool) (out c : ℕ) → without stands out c ≡ true → stands c ≡ true
stood stands out c h = and-left (stands c) (not (c == out)) h

another : (stands : ℕ → Bool) (out c : ℕ) → without stands out c ≡ true → c ≢ out
another stands out c h same =
    let no_more = ap not (equal-yes c out same) in
    let is = and-right (stands c) (not (c == out)) h in
    absurd (cc (no_more, is))

-- the piles after a candidate went out, from those in between
module _ (rankings : List (List ℕ)) (old mid new : Piles) (out : ℕ)
    (counted : (c : ℕ) → stands_in old c ≡ true → (test : List ℕ → Bool) →
    count_on rankings test (pile_at old c) ≡ count_by (λ ranking. test ranking && is_for (stands_in old) c ranking) rankings)
    (stands : stands_in old out ≡ true)
    (kept : (c : ℕ) → c ≢ out → pile_at mid c ≡ pile_at old c)
    (laid : Laid rankings (without (stands_in old) out) mid new (map (λ (piled : PiledBallot). ranking_at rankings piled.ballot) (pile_at old out))) where
  -- what a test counts of the rankings that were laid again
  again : (test : List ℕ → Bool) → count_by test (map (λ (piled : PiledBallot). ranking_at rankings piled.ballot) (pile_at old out)) ≡
      count_by (λ ranking. test ranking && is_for (stands_in old) out ranking) rankings
  again test = count_by-map test (λ (piled : PiledBallot). ranking_at rankings piled.ballot) (pile_at old out) ∙ counted out stands test

  pub moved-counted : (c : ℕ) → without (stands_in old) out c ≡ true → (test : List ℕ → Bool) →
      count_on rankings test (pile_at new c) ≡ count_by (λ ranking. test ranking && is_for (without (stands_in old) out) c ranking) rankings
  moved-counted c h test =
      let apart = another (stands_in old) out c h in
      let before = counted c (stood (stands_in old) out c h) test in
      let same = ap (count_on rankings test) (kept c apart) in
      let more = again (λ ranking. test ranking && is_for (without (stands_in old) out) c ranking) in
      let both = sum_by-split
      (λ (r : List ℕ). cond (test r && is_for (stands_in old) c r) 1 0)
      (λ (r : List ℕ). cond ((test r && is_for (without (stands_in old) out) c r) && is_for (stands_in old) out r) 1 0)
      (λ (r : List ℕ). cond (test r && is_for (without (stands_in old) out) c r) 1 0)
      (λ r. counts_one (stands_in old) out c test r apart (choice-without (stands_in old) out r)) rankings in
      omega (arith, laid.counted c h test, same, before, more, both)

  pub moved-exhausted : mid.exhausted ≡ count_by (is_exhausted (stands_in old)) rankings →
      new.exhausted ≡ count_by (is_exhausted (without (stands_in old) out)) rankings
  moved-exhausted before =
      let more = again (is_exhausted (without (stands_in old) out)) in
      let both = sum_by-split
      (λ (r : List ℕ). cond (is_exhausted (stands_in old) r) 1 0)
      (λ (r : List ℕ). cond (is_exhausted (without (stands_in old) out) r && is_for (stands_in old) out r) 1 0)
      (λ (r : List ℕ). cond (is_exhausted (without (stands_in old) out) r) 1 0)
      (λ r. exhausted_one (stands_in old) out r (choice-without (stands_in old) out r)) rankings in
      omega (arith, laid.exhausted, before, more, both)

  pub moved-placed : ((c : ℕ) → stands_in old c ≡ true → All (LiesFor rankings (stands_in old) c) (pile_at old c)) →
      (c : ℕ) → without (stands_in old) out c ≡ true → All (LiesFor rankings (without (stands_in old) out) c) (pile_at new c)
  moved-placed placed c h =
      let apart = another (stands_in old) out c h in
      laid.placed c h
      (subst (λ (pile : List PiledBallot). All (LiesFor rankings (without (stands_in old) out) c) pile) (sym (kept c apart))
      (All-weaker (LiesFor rankings (stands_in old) c) (LiesFor rankings (without (stands_in old) out) c)
      (λ piled. lies-still rankings (stands_in old) out c piled) (pile_at old c) (placed c (stood (stands_in old) out c h))))

and_yes : (a b : Bool) → b ≡ true → a && b ≡ a
and_yes true b e = e
and_yes false b e = refl

stands_now : (bits : List Bool) (out c : ℕ) → out < length bits → (c ≡ out) ⊎ (c ≢ out) →
    slice_index_or (set bits out false) c false ≡ slice_index_or bits c false && not (c == out)
stands_now bits out c within (inl same) =
    ap (λ (k : ℕ). get_or (set bits out false) k false) same ∙ get_or-set_same bits out false false within
    ∙ sym (and_false (slice_index_or bits c false) (not (c == out)) (ap not (equal-yes c out same)))
stands_now bits out c within (inr other) =
    (rw get_or-set_other) ∙ sym (and_yes (slice_index_or bits c false) (not (c == out)) (ap not (equal-no c out other)))

-- the same candidates stand but one
pub stands-without : (bits : List Bool) (out : ℕ) → out < length bits →
    (λ (c : ℕ). slice_index_or (set bits out false) c false) ≡ without (λ (c : ℕ). slice_index_or bits c false) out
stands-without bits out within = λ i c. stands_now bits out c within (same_or c out) i

-- the ballots of the one that goes out lie for none
pub gone-again : (rankings : List (List ℕ)) (bits : List Bool) (out : ℕ) (pile pile' : List PiledBallot) → out < length bits → pile' ≡ pile →
    All (LiesFor rankings (λ (c : ℕ). slice_index_or bits c false) out) pile →
    All (LiesForNone rankings (λ (c : ℕ). slice_index_or (set bits out false) c false)) pile'
gone-again rankings bits out pile pile' within same each =
    let at : ℕ → Bool = λ (c : ℕ). slice_index_or bits c false in
    let gone : All (LiesForNone rankings (without at out)) pile =
    All-weaker (LiesFor rankings at out) (LiesForNone rankings (without at out)) (λ piled. lies-none rankings at out piled) pile each in
    subst (λ (stands : ℕ → Bool). All (LiesForNone rankings stands) pile') (sym (stands-without bits out within))
    (subst (λ (ps : List PiledBallot). All (LiesForNone rankings (without at out)) ps) (sym same) gone)

-- a pile has no more ballots than there are
pub pile-le : (n : ℕ) (rankings : List (List ℕ)) (piles : Piles) (c : ℕ) → ArePiled n rankings piles → stands_in piles c ≡ true →
    length (pile_at piles c) ≡ count_by (is_for (stands_in piles) c) rankings
pile-le n rankings piles c h stands =
    sym (count_by-all (pile_at piles c)) ∙ h.counted c stands (λ ranking. true)

module _ (n : ℕ) (rankings : List (List ℕ)) (old mid new : Piles) (out : ℕ) (h : ArePiled n rankings old) (stands : stands_in old out ≡ true)
    (standing : mid.standing.items ≡ set old.standing.items out false) (piles : mid.piles.items ≡ set old.piles.items out [])
    (exhausted : mid.exhausted ≡ old.exhausted)
    (laid : Laid rankings (stands_in mid) mid new (map (λ (piled : PiledBallot). ranking_at rankings piled.ballot) (pile_at old out))) where
  mid_stands : stands_in mid ≡ without (stands_in old) out
  mid_stands =
      ap {B = ℕ → Bool} (λ (bits : List Bool) (c : ℕ). slice_index_or bits c false) standing
      ∙ stands-without old.standing.items out (standing-within old.standing.items out stands)

  pub new-stands : stands_in new ≡ without (stands_in old) out
  new-stands = same-stands mid new laid.standing ∙ mid_stands

  mid_kept : (c : ℕ) → c ≢ out → pile_at mid c ≡ pile_at old c
  mid_kept c apart = ap (λ (ps : List (List PiledBallot)). slice_index_or ps c []) piles ∙ rw get_or-set_other

  laid_without : Laid rankings (without (stands_in old) out) mid new (map (λ (piled : PiledBallot). ranking_at rankings piled.ballot) (pile_at old out))
  laid_without = subst (λ (s : ℕ → Bool). Laid rankings s mid new
      (map (λ (piled : PiledBallot). ranking_at rankings piled.ballot) (pile_at old out))) mid_stands laid

  new_all : length new.standing.items ≡ n
  new_all =
      let a = ap length laid.standing in
      let b = ap length standing in
      omega (arith, a, b, h.all, length-set {A = Bool})

  pub moved : HasPiles new → ArePiled n rankings new
  moved has = record {
    few = h.few;
    has_piles = has;
    all = new_all;
    counted = subst (λ (s : ℕ → Bool). (c : ℕ) → s c ≡ true → (test : List ℕ → Bool) →
        count_on rankings test (pile_at new c) ≡ count_by (λ ranking. test ranking && is_for s c ranking) rankings)
        (sym new-stands) (moved-counted rankings old mid new out h.counted stands mid_kept laid_without);
    placed = subst (λ (s : ℕ → Bool). (c : ℕ) → s c ≡ true → All (LiesFor rankings s c) (pile_at new c))
        (sym new-stands) (moved-placed rankings old mid new out h.counted stands mid_kept laid_without h.placed);
    exhausted = subst (λ (s : ℕ → Bool). new.exhausted ≡ count_by (is_exhausted s) rankings)
        (sym new-stands) (moved-exhausted rankings old mid new out h.counted stands mid_kept laid_without (exhausted ∙ h.exhausted));
  }
