-- Words round the end of a printed line.
use Rattle.std.proofs.Common.{◌≡◌, ◌<◌, ◌≤◌, ◌+◌, ◌-◌, ◌*◌, ◌⊎◌, inl, inr, ℕ, Bool, true, false, not, min, List, length, take, drop, get_or, sym, ap, ◌∙◌, arith, length-drop}
use Rattle.std.specs.List.{after_last, before_first, suffix_len}
use Rattle.std.specs.Fork.{slice_chunk}
use Rattle.std.proofs.lemmas.Bool.{cases_lt}
use Rattle.std.proofs.lemmas.List.{take_all}
use Rattle.std.proofs.lemmas.List.Sums.{position_or_len_is, suffix_len_is}

-- no more than so many of a list
pub take-min : (n : ℕ) (xs : List ℕ) → take (min (length xs) n) xs ≡ take n xs
take-min n xs = by (cases_lt (length xs) n)
  where
    by : (length xs < n) ⊎ (n ≤ length xs) → take (min (length xs) n) xs ≡ take n xs
    by (inl low) =
        let least : min (length xs) n ≡ length xs = omega arith in
        ap (λ (k : ℕ). take k xs) least ∙ take_all (length xs) xs (omega arith) ∙ sym (take_all n xs (omega arith))
    by (inr high) =
        let least : min (length xs) n ≡ n = omega arith in
        ap (λ (k : ℕ). take k xs) least

-- the characters of a line, cut out of all
pub chunk-is : (cs : List ℕ) (line n : ℕ) → n ≡ min (length cs - line * 29) 29 → take n (take (length cs - line * 29) (drop (line * 29) cs)) ≡ slice_chunk cs 29 line
chunk-is cs line n is =
    let rest = drop (line * 29) cs in
    let long = length-drop (line * 29) cs in
    let least : n ≡ min (length rest) 29 = omega (arith, is, long) in
    ap (λ (some : List ℕ). take n some) (take_all (length cs - line * 29) rest (omega (arith, long)))
    ∙ ap (λ (k : ℕ). take k rest) least
    ∙ take-min 29 rest

module _ (p : ℕ → Bool) (xs : List ℕ) where
  -- what stands behind a place where p passes, and behind which it doesn't
  pub behind-last : (i : ℕ) → i < length xs → p (get_or xs i 0) ≡ true → ((k : ℕ) → i + 1 ≤ k → k < length xs → p (get_or xs k 0) ≡ false) → drop (i + 1) xs ≡ after_last p xs
  behind-last i low here later =
      let same : i + 1 - 1 ≡ i = omega arith in
      let count = suffix_len_is (λ x. not (p x)) xs (i + 1) 0 (omega arith) (λ k above inside. ap not (later k above inside)) (λ some. ap not (ap (λ (n : ℕ). p (get_or xs n 0)) same ∙ here)) in
      let place : i + 1 ≡ length xs - suffix_len (λ x. not (p x)) xs = omega arith in
      ap (λ (n : ℕ). drop n xs) place

  -- all of it, where it passes nowhere
  pub behind-none : ((k : ℕ) → k < length xs → p (get_or xs k 0) ≡ false) → xs ≡ after_last p xs
  behind-none none =
      let count = suffix_len_is (λ x. not (p x)) xs 0 0 (omega arith) (λ k above inside. ap not (none k inside)) (λ some. absurd (omega arith)) in
      let place : 0 ≡ length xs - suffix_len (λ x. not (p x)) xs = omega arith in
      ap (λ (n : ℕ). drop n xs) place

  -- what stands before a place where p passes, and before which it doesn't
  pub before-here : (i : ℕ) → i < length xs → p (get_or xs i 0) ≡ true → ((k : ℕ) → k < i → p (get_or xs k 0) ≡ false) → take i xs ≡ before_first p xs
  before-here i low here earlier =
      ap (λ (n : ℕ). take n xs) (sym (position_or_len_is p xs i 0 (omega arith) earlier (λ inside. here)))

  pub before-none : ((k : ℕ) → k < length xs → p (get_or xs k 0) ≡ false) → xs ≡ before_first p xs
  before-none none =
      sym (take_all (length xs) xs (omega arith)) ∙ ap (λ (n : ℕ). take n xs) (sym (position_or_len_is p xs (length xs) 0 (omega arith) none (λ inside. absurd (omega arith))))
