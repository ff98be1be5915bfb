-- Numbers within a range, and front pages: what begins with some digits, and how they are read.
use Rattle.std.proofs.Common.{◌≡◌, ℕ, zero, suc, ◌+◌, ◌-◌, ◌*◌, ◌/◌, ◌%◌, ◌^◌, ◌≤◌, ◌<◌, Bool, true, false, cond, List, [], ◌∷◌, ◌++◌, length, get_or, refl, ap, sym, subst, ◌∙◌, arith, inl, inr, length-append, append-nil, append_assoc}
use Rattle.std.specs.Prelude.{Result, Ok, Err, ◌==◌, ◌&&◌, ◌||◌, not, nat_le, nat_lt, max}
use Rattle.std.specs.Fmt.{decimal}
use Rattle.std.proofs.lemmas.Bool.{eqb-true, eqb-false, eq-eqb, ne_eqb, ltb-true, ltb-false, lt-ltb, le-ltb, leb-true, le-leb, lt-leb, cases_lt, cases_eq}
use Rattle.std.proofs.lemmas.Fmt.{decimal_digit, decimal_injective}
use Rattle.vx_base.proofs.Booleans.{and-left, and-right, and-both, or-left, or-right, or-cases}
use Rattle.vx_json.specs.Reading.{is_within}
use Rattle.vx_records.specs.declared.numbers.Numbers.{Numbers}
use Rattle.vx_records.specs.declared.numbers.Numbers.TheVariants.{Between, Fronts}
use Rattle.vx_records.specs.Numbers.{takes, reaches, begins, is_digit, digits_in, number_in}
use Rattle.vx_records.proofs.Digits.{lowest, highest, Extends, Reaches, lowest-highest, lowest-grows, lowest_at, highest_at, extends_from, reaches_from, tens, zero_alone}

pub within : (low high n : ℕ) → low ≤ n → n ≤ high → is_within low high n ≡ true
within low high n h k = and-both (nat_le low n) (nat_le n high) (le-leb low n h) (le-leb n high k)

pub within_low : (low high n : ℕ) → is_within low high n ≡ true → low ≤ n
within_low low high n h = leb-true low n (and-left (nat_le low n) (nat_le n high) h)

pub within_high : (low high n : ℕ) → is_within low high n ≡ true → n ≤ high
within_high low high n h = leb-true n high (and-right (nat_le low n) (nat_le n high) h)

-- what is known of the numbers that may stand in a place
pub record Good (numbers : Numbers) : Type 0 where
  pub small : (n : ℕ) → takes numbers n ≡ true → n < 1000000
  pub begun_small : (n : ℕ) → begins numbers n ≡ true → n < 1000000
  pub goes : (n : ℕ) → begins numbers n ≡ true → (m : ℕ) × ((takes numbers m ≡ true) × Extends n m)
  pub back : (n m : ℕ) (more : List ℕ) → n < 2 ^ 32 → takes numbers m ≡ true → decimal m ≡ decimal n ++ more → begins numbers n ≡ true

-- the digits lead into the range
reaches_has : (k i d least most n m : ℕ) → d < k → least ≤ m → m ≤ most → lowest (d + i) n ≤ m → m ≤ highest (d + i) n → reaches k least most (lowest i n) (highest i n) ≡ true
unfolding reaches
reaches_has zero i d least most n m few h j low high = absurd (omega arith)
reaches_has (suc k) i zero least most n m few h j low high =
    let e : lowest (zero + i) n ≡ lowest i n = lowest_at (zero + i) i n (omega arith) in
    let f : highest (zero + i) n ≡ highest i n = highest_at (zero + i) i n (omega arith) in
    and-both (nat_le (lowest i n) most) (nat_le least (highest i n) || reaches k least most (lowest (suc i) n) (highest (suc i) n))
    (le-leb (lowest i n) most (omega (arith, e, low, j)))
    (or-left (nat_le least (highest i n)) (reaches k least most (lowest (suc i) n) (highest (suc i) n)) (le-leb least (highest i n) (omega (arith, f, high, h))))
reaches_has (suc k) i (suc d) least most n m few h j low high =
    let e : lowest (suc d + i) n ≡ lowest (d + suc i) n = lowest_at (suc d + i) (d + suc i) n (omega arith) in
    let f : highest (suc d + i) n ≡ highest (d + suc i) n = highest_at (suc d + i) (d + suc i) n (omega arith) in
    let grows = lowest-grows i (suc d) n in
    and-both (nat_le (lowest i n) most) (nat_le least (highest i n) || reaches k least most (lowest (suc i) n) (highest (suc i) n))
    (le-leb (lowest i n) most (omega (arith, grows, low, j)))
    (or-right (nat_le least (highest i n)) (reaches k least most (lowest (suc i) n) (highest (suc i) n))
    (reaches_has k (suc i) d least most n m (omega arith) h j (omega (arith, e, low)) (omega (arith, f, high))))

record Meets (least most n : ℕ) : Type 0 where
  more : ℕ
  low : lowest more n ≤ most
  high : least ≤ highest more n

reaches_meets : (k i least most n : ℕ) → reaches k least most (lowest i n) (highest i n) ≡ true → Meets least most n
unfolding reaches
reaches_meets zero i least most n h = absurd cc
reaches_meets (suc k) i least most n h =
    or-cases (nat_le least (highest i n)) (reaches k least most (lowest (suc i) n) (highest (suc i) n))
    (and-right (nat_le (lowest i n) most) (nat_le least (highest i n) || reaches k least most (lowest (suc i) n) (highest (suc i) n)) h)
    (λ e. record { more = i; low = leb-true (lowest i n) most (and-left (nat_le (lowest i n) most) (nat_le least (highest i n) || reaches k least most (lowest (suc i) n) (highest (suc i) n)) h); high = leb-true least (highest i n) e })
    (λ e. reaches_meets k (suc i) least most n e)

reaches_first : (k least most first last : ℕ) → reaches k least most first last ≡ true → first ≤ most
unfolding reaches
reaches_first zero least most first last h = absurd cc
reaches_first (suc k) least most first last h = leb-true first most (and-left (nat_le first most) (nat_le least last || reaches k least most (10 * first) (10 * last + 9)) h)

module _ (least most : ℕ) (some : least ≤ most) (few : most < 1000000) where
  meets_goes : (n : ℕ) → 0 < n → Meets least most n → (m : ℕ) × ((is_within least most m ≡ true) × Extends n m)
  meets_goes n pos h =
      let between = lowest-highest h.more n in
      let m = max least (lowest h.more n) in
      (m, (within least most m (omega (arith, h.low)) (omega (arith, h.low)), extends_from h.more n m pos (omega (arith, h.low)) (omega arith) (omega (arith, between, h.high))))

  goes_at : (n : ℕ) (t : Bool) → (n == 0) ≡ t → cond t (least == 0) (reaches 6 least most n n) ≡ true → (m : ℕ) × ((is_within least most m ≡ true) × Extends n m)
  goes_at n true e h =
      let zero_n : n ≡ 0 = eqb-true n 0 e in
      let zero_least : least ≡ 0 = eqb-true least 0 h in
      (n, (within least most n (omega arith) (omega arith), record { more = []; text = sym (append-nil (decimal n)) }))
  goes_at n false e h = meets_goes n (positive n (eqb-false n 0 e)) (reaches_meets 6 0 least most n h) where
    positive : (k : ℕ) → (k ≡ 0 → ⊥) → 0 < k
    positive k ne = omega (arith, ne)

  small_at : (n : ℕ) (t : Bool) → (n == 0) ≡ t → cond t (least == 0) (reaches 6 least most n n) ≡ true → n < 1000000
  small_at n true e h = omega (arith, eqb-true n 0 e)
  small_at n false e h = omega (arith, reaches_first 6 least most n n h)

  back_zero : (n m : ℕ) (more : List ℕ) → is_within least most m ≡ true → decimal m ≡ decimal n ++ more → n ≡ 0 → cond true (least == 0) (reaches 6 least most n n) ≡ true
  back_zero n m more h e k =
      let inside = within_high least most m h in
      let text : decimal m ≡ decimal 0 ++ more = e ∙ ap (λ (x : ℕ). decimal x ++ more) k in
      let nothing = zero_alone m more (omega arith) text in
      let same : m ≡ 0 = decimal_injective m 0 (omega arith) (omega arith) (text ∙ ap (λ (t : List ℕ). decimal 0 ++ t) nothing ∙ append-nil (decimal 0)) in
      eq-eqb least 0 (omega (arith, within_low least most m h))

  back_pos : (n m : ℕ) → is_within least most m ≡ true → Reaches 6 n m → reaches 6 least most n n ≡ true
  back_pos n m h r =
      let e : lowest (r.more + 0) n ≡ lowest r.more n = lowest_at (r.more + 0) r.more n (omega arith) in
      let f : highest (r.more + 0) n ≡ highest r.more n = highest_at (r.more + 0) r.more n (omega arith) in
      reaches_has 6 0 r.more least most n m r.few (within_low least most m h) (within_high least most m h) (omega (arith, e, r.low)) (omega (arith, f, r.high))

  back_at : (n m : ℕ) (more : List ℕ) (t : Bool) → (n == 0) ≡ t → n < 2 ^ 32 → is_within least most m ≡ true → decimal m ≡ decimal n ++ more → cond t (least == 0) (reaches 6 least most n n) ≡ true
  unfolding tens
  back_at n m more true e small h k = back_zero n m more h k (eqb-true n 0 e)
  back_at n m more false e small h k = back_pos n m h (reaches_from 5 n m more (omega arith) (omega (arith, within_high least most m h)) (omega (arith, within_high least most m h)) k)

  pub between : Good (Between least most)
  between = record {
    small = λ n h. omega (arith, within_high least most n h);
    begun_small = λ n h. small_at n (n == 0) refl h;
    goes = λ n h. goes_at n (n == 0) refl h;
    back = λ n m more small h k. back_at n m more (n == 0) refl small h k;
  }

pub front_odd : (n : ℕ) → takes Fronts n ≡ true → n % 2 ≡ 1
front_odd n h = eqb-true (n % 2) 1 (and-left (n % 2 == 1) (nat_lt n 64) h)

pub front_few : (n : ℕ) → takes Fronts n ≡ true → n < 64
front_few n h = ltb-true n 64 (and-right (n % 2 == 1) (nat_lt n 64) h)

pub front_is : (n : ℕ) → n % 2 ≡ 1 → n < 64 → takes Fronts n ≡ true
front_is n h k = and-both (n % 2 == 1) (nat_lt n 64) (eq-eqb (n % 2) 1 h) (lt-ltb n 64 k)

fronts_small : (n : ℕ) → begins Fronts n ≡ true → n < 1000000
fronts_small n h = or-cases (takes Fronts n) (is_within 1 6 n) h
    (λ k. omega (arith, front_few n k)) (λ k. omega (arith, within_high 1 6 n k))

fronts_go_on : (n : ℕ) → is_within 1 6 n ≡ true → (m : ℕ) × ((takes Fronts m ≡ true) × Extends n m)
fronts_go_on n h =
    let low = within_low 1 6 n h in
    let high = within_high 1 6 n h in
    (10 * n + 1, (front_is (10 * n + 1) (omega arith) (omega arith), extends_from 1 n (10 * n + 1) low (omega arith) (omega arith) (omega arith)))

fronts_goes : (n : ℕ) → begins Fronts n ≡ true → (m : ℕ) × ((takes Fronts m ≡ true) × Extends n m)
fronts_goes n h = or-cases (takes Fronts n) (is_within 1 6 n) h
    (λ k. (n, (k, record { more = []; text = sym (append-nil (decimal n)) })))
    (λ k. fronts_go_on n k)

fronts_within : (n m : ℕ) → 0 < n → takes Fronts m ≡ true → (more : ℕ) → more < 2 → lowest more n ≤ m → m ≤ highest more n → begins Fronts n ≡ true
fronts_within n m pos h zero few low high =
    let same : n ≡ m = omega arith in
    or-left (takes Fronts n) (is_within 1 6 n) (subst (λ (x : ℕ). takes Fronts x ≡ true) (sym same) h)
fronts_within n m pos h (suc zero) few low high =
    or-right (takes Fronts n) (is_within 1 6 n) (within 1 6 n pos (omega (arith, front_few m h)))
fronts_within n m pos h (suc (suc more)) few low high = absurd (omega arith)

fronts_back : (n m : ℕ) (more : List ℕ) → n < 2 ^ 32 → takes Fronts m ≡ true → decimal m ≡ decimal n ++ more → begins Fronts n ≡ true
unfolding tens
fronts_back zero m more small h e =
    let few = front_few m h in
    let nothing = zero_alone m more (omega arith) e in
    let same : m ≡ 0 = decimal_injective m 0 (omega arith) (omega arith) (e ∙ ap (λ (t : List ℕ). decimal 0 ++ t) nothing ∙ append-nil (decimal 0)) in
    absurd (omega (arith, front_odd m h))
fronts_back (suc n) m more small h e =
    let few = front_few m h in
    let r = reaches_from 1 (suc n) m more (omega arith) (omega arith) (omega arith) e in
    fronts_within (suc n) m (omega arith) h r.more r.few r.low r.high

pub fronts_good : Good Fronts
fronts_good = record {
  small = λ n h. omega (arith, front_few n h);
  begun_small = λ n h. fronts_small n h;
  goes = λ n h. fronts_goes n h;
  back = λ n m more small h k. fronts_back n m more small h k;
}
