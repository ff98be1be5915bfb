-- Counts by the height of the piles.
use Rattle.std.proofs.Common.{◌≡◌, ℕ, zero, suc, ◌+◌, ◌^◌, ◌<◌, Bool, true, false, cond, List, [], ◌∷◌, ◌++◌, length, map, refl, ap, sym, ◌∙◌, subst, arith, append-nil, get_or}
use Rattle.std.specs.Prelude.{All, filter, count_by, Option}
use Rattle.std.specs.List.{range_with_len}
use Rattle.std.proofs.lemmas.List.{map-append, length-map}
use Rattle.std.proofs.lemmas.List.Elements.{All-map, All-weaker, filter_passes, filter-append}
use Rattle.std.proofs.lemmas.List.Sums.{count_by-le-length, length-filter}
use Rattle.vx_base.proofs.Ranges.{range-more}
use Rattle.vx_rounds.specs.declared.piles.PiledBallot.{PiledBallot}
use Rattle.vx_rounds.specs.declared.piles.Piles.{Piles}
use Rattle.vx_rounds.specs.Rounds.{is_for, is_exhausted, counts_of, out_of, round_of}
use Rattle.vx_rounds.specs.Piles.{pile_at, stands_in, ArePiled}
use Rattle.vx_rounds.proofs.Moved.{pile-le}
use Rattle.vx_rounds.proofs.Piled.{other-default}

-- one number more that passes, and one that doesn't
pub picked-more : {Y : Type 0} (f : ℕ → Y) (p : ℕ → Bool) (n : ℕ) → p n ≡ true →
    map f (filter p (range_with_len 0 (n + 1))) ≡ map f (filter p (range_with_len 0 n)) ++ f n ∷ []
picked-more f p n h =
    ap (λ (ks : List ℕ). map f (filter p ks)) (range-more 0 n) ∙ picked (0 + n) (omega arith)
  where
    picked : (k : ℕ) → k ≡ n → map f (filter p (range_with_len 0 n ++ k ∷ [])) ≡ map f (filter p (range_with_len 0 n)) ++ f n ∷ []
    picked k e =
        ap (λ (m : ℕ). map f (filter p (range_with_len 0 n ++ m ∷ []))) e
        ∙ ap (map f) (filter-append p (range_with_len 0 n) (n ∷ []) ∙ ap (λ (b : Bool). filter p (range_with_len 0 n) ++ cond b (n ∷ []) []) h)
        ∙ map-append f (filter p (range_with_len 0 n)) (n ∷ [])

pub passed-over : {Y : Type 0} (f : ℕ → Y) (p : ℕ → Bool) (n : ℕ) → p n ≡ false →
    map f (filter p (range_with_len 0 (n + 1))) ≡ map f (filter p (range_with_len 0 n))
passed-over f p n h =
    ap (λ (ks : List ℕ). map f (filter p ks)) (range-more 0 n) ∙ passed (0 + n) (omega arith)
  where
    passed : (k : ℕ) → k ≡ n → map f (filter p (range_with_len 0 n ++ k ∷ [])) ≡ map f (filter p (range_with_len 0 n))
    passed k e =
        ap (λ (m : ℕ). map f (filter p (range_with_len 0 n ++ m ∷ []))) e
        ∙ ap (map f) (filter-append p (range_with_len 0 n) (n ∷ []) ∙ ap (λ (b : Bool). filter p (range_with_len 0 n) ++ cond b (n ∷ []) []) h
        ∙ append-nil (filter p (range_with_len 0 n)))

-- maps that agree on what passes
same_map : {Y : Type 0} (p : ℕ → Bool) (f g : ℕ → Y) → ((c : ℕ) → p c ≡ true → f c ≡ g c) → (xs : List ℕ) → map f (filter p xs) ≡ map g (filter p xs)
same_map p f g same [] = refl
same_map p f g same (x ∷ xs) = one p f g x (filter p xs) (p x) (same x) (same_map p f g same xs)
  where
    one : {Y : Type 0} (p : ℕ → Bool) (f g : ℕ → Y) (x : ℕ) (rest : List ℕ) (b : Bool) → (b ≡ true → f x ≡ g x) → map f rest ≡ map g rest →
        map f (cond b (x ∷ rest) rest) ≡ map g (cond b (x ∷ rest) rest)
    one {Y} p f g x rest true h e = ap (λ (y : Y). y ∷ map f rest) (h refl) ∙ ap (λ (ys : List Y). g x ∷ ys) e
    one p f g x rest false h e = e

-- one candidate more, which stands
pub counted-yes : (piles : Piles) (counts counts' : List (ℕ × ℕ)) (n len : ℕ) (bit : Bool) (pile : List PiledBallot) →
    counts ≡ map (λ c. (c, length (pile_at piles c))) (filter (stands_in piles) (range_with_len 0 n)) → counts' ≡ counts ++ (n, len) ∷ [] →
    len ≡ length pile → pile ≡ get_or piles.piles.items n pile → n < length piles.piles.items →
    bit ≡ get_or piles.standing.items n bit → n < length piles.standing.items → bit ≡ true →
    counts' ≡ map (λ c. (c, length (pile_at piles c))) (filter (stands_in piles) (range_with_len 0 (n + 1)))
counted-yes piles counts counts' n len bit pile before more len_is pile_is has bit_is within is =
    let stands = sym (other-default piles.standing.items n bit false within) ∙ sym bit_is ∙ is in
    let high = len_is ∙ ap length (pile_is ∙ other-default piles.piles.items n pile [] has) in
    more ∙ ap (λ (cs : List (ℕ × ℕ)). cs ++ (n, len) ∷ []) before
    ∙ ap (λ (k : ℕ). map (λ c. (c, length (pile_at piles c))) (filter (stands_in piles) (range_with_len 0 n)) ++ (n, k) ∷ []) high
    ∙ sym (picked-more (λ c. (c, length (pile_at piles c))) (stands_in piles) n stands)

-- one candidate more, which doesn't stand
pub counted-no : (piles : Piles) (counts counts' : List (ℕ × ℕ)) (n : ℕ) (bit : Bool) →
    counts ≡ map (λ c. (c, length (pile_at piles c))) (filter (stands_in piles) (range_with_len 0 n)) → counts' ≡ counts →
    bit ≡ get_or piles.standing.items n bit → n < length piles.standing.items → bit ≡ false →
    counts' ≡ map (λ c. (c, length (pile_at piles c))) (filter (stands_in piles) (range_with_len 0 (n + 1)))
counted-no piles counts counts' n bit before same bit_is within is =
    let out = sym (other-default piles.standing.items n bit false within) ∙ sym bit_is ∙ is in
    same ∙ before ∙ sym (passed-over (λ c. (c, length (pile_at piles c))) (stands_in piles) n out)

length_range : (a n : ℕ) → length (range_with_len a n) ≡ n
length_range a zero = refl
length_range a (suc n) = omega (arith, length_range (a + 1) n)

module _ (n : ℕ) (rankings : List (List ℕ)) (piles : Piles) (h : ArePiled n rankings piles) where
  high : ℕ → ℕ × ℕ
  high c = (c, length (pile_at piles c))

  -- the heights of the piles are the counts of the ballots
  pub heights : map (λ c. (c, length (pile_at piles c))) (filter (stands_in piles) (range_with_len 0 n)) ≡ counts_of n (stands_in piles) rankings
  heights =
      same_map (stands_in piles) (λ c. (c, length (pile_at piles c))) (λ c. (c, count_by (is_for (stands_in piles) c) rankings))
      (λ c stands. ap (λ (k : ℕ). (c, k)) (pile-le n rankings piles c h stands)) (range_with_len 0 n)

  pub few-counts : (counts : List (ℕ × ℕ)) → counts ≡ map (λ c. (c, length (pile_at piles c))) (filter (stands_in piles) (range_with_len 0 n)) →
      n < 2 ^ 32 → length counts < 2 ^ 32
  few-counts counts e small =
      let a = ap length e in
      let b = length-map {B = ℕ × ℕ} (filter (stands_in piles) (range_with_len 0 n)) (λ (c : ℕ). (c, length (pile_at piles c))) in
      let d = length-filter (stands_in piles) (range_with_len 0 n) in
      let le = count_by-le-length (stands_in piles) (range_with_len 0 n) in
      let r = length_range 0 n in
      omega (arith, a, b, d, le, r, small)

  pub small-counts : (counts : List (ℕ × ℕ)) → counts ≡ map (λ c. (c, length (pile_at piles c))) (filter (stands_in piles) (range_with_len 0 n)) →
      All (λ (count : ℕ × ℕ). count.1 < 2 ^ 32) counts
  small-counts counts e =
      subst (λ (cs : List (ℕ × ℕ)). All (λ (count : ℕ × ℕ). count.1 < 2 ^ 32) cs) (sym e)
      (All-map (λ (count : ℕ × ℕ). count.1 < 2 ^ 32) (λ (c : ℕ). (c, length (pile_at piles c))) (filter (stands_in piles) (range_with_len 0 n))
      (All-weaker (λ (c : ℕ). stands_in piles c ≡ true) (λ (c : ℕ). length (pile_at piles c) < 2 ^ 32)
      (λ c stands. let a = pile-le n rankings piles c h stands in let le = count_by-le-length (is_for (stands_in piles) c) rankings in omega
      (arith, a, le, h.few))
      (filter (stands_in piles) (range_with_len 0 n)) (filter_passes (stands_in piles) (range_with_len 0 n))))

  -- a round of these counts is the round
  pub round-is : (counts : List (ℕ × ℕ)) (out : Option ℕ) → counts ≡
      map (λ c. (c, length (pile_at piles c))) (filter (stands_in piles) (range_with_len 0 n)) → out ≡ out_of counts →
      record { counts = counts; exhausted = piles.exhausted; out = out } ≡ round_of n (stands_in piles) rankings
  round-is counts out e f =
      let same = e ∙ heights in
      ap (λ (cs : List (ℕ × ℕ)). record { counts = cs; exhausted = piles.exhausted; out = out }) same
      ∙ ap (λ (k : ℕ). record { counts = counts_of n (stands_in piles) rankings; exhausted = k; out = out }) h.exhausted
      ∙ ap (λ (o : Option ℕ). record {
        counts = counts_of n (stands_in piles) rankings;
        exhausted = count_by
            (is_exhausted (stands_in piles)) rankings;
        out = o;
      }) (f ∙ ap out_of same)
