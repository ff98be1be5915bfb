-- Numbers as a part of a text.
use Rattle.std.proofs.Common.{◌≡◌, ℕ, zero, suc, ◌+◌, ◌-◌, ◌*◌, ◌^◌, ◌≤◌, ◌<◌, Bool, true, false, cond, List, [], ◌∷◌, ◌++◌, length, refl, ap, sym, subst, ◌∙◌, arith, length-append, append-nil, append_assoc}
use Rattle.std.specs.Prelude.{Result, Ok, Err, ◌&&◌, not, nat_lt}
use Rattle.std.specs.Fmt.{decimal}
use Rattle.std.proofs.lemmas.Bool.{ltb-true, lt-ltb, not-true}
use Rattle.std.proofs.lemmas.Fmt.{decimal_digit, decimal_injective}
use Rattle.vx_base.proofs.Booleans.{and-left, and-right, and-both}
use Rattle.vx_records.specs.declared.numbers.Numbers.{Numbers}
use Rattle.vx_records.specs.Parts.{Found, Read, found, stop}
use Rattle.vx_records.specs.Numbers.{takes, begins, is_digit, digits_in, number_in}
use Rattle.vx_records.proofs.Grammar.{Part, Splits, Begins, StopsAt, found_value, found_rest}
use Rattle.vx_records.proofs.Steps.{Spelled, left_within, same_texts}
use Rattle.vx_records.proofs.Digits.{Extends, NextDigit, next_digit, next_text, FirstDigit, first_digit}
use Rattle.vx_records.proofs.Range.{Good, within, within_low, within_high}

-- bytes that end a number
abbrev pub no_digit : ℕ → Bool
no_digit b = not (is_digit b)

-- what stands behind the digits of n in a number that is taken
pub record Behind (numbers : Numbers) (n m : ℕ) (u : List ℕ) : Type 0 where
  pub is : takes numbers m ≡ true
  pub text : decimal m ≡ decimal n ++ u

abbrev pub Number : Numbers → ℕ → List ℕ → Type 0
Number numbers = Spelled (λ n. takes numbers n ≡ true) decimal

-- the three answers to one byte more
data Step (numbers : Numbers) (n b : ℕ) (text : List ℕ) (r : Read ℕ) : Type 0 where
  goes_on : is_digit b ≡ true → 0 < n → begins numbers (10 * n + (b - 48)) ≡ true → r ≡ digits_in numbers (10 * n + (b - 48)) text → Step numbers n b text r
  breaks : is_digit b ≡ true → (0 < n → begins numbers (10 * n + (b - 48)) ≡ false) → r ≡ stop (b ∷ text) → Step numbers n b text r
  ends : is_digit b ≡ false → takes numbers n ≡ true → r ≡ found n (b ∷ text) → Step numbers n b text r
  fails : is_digit b ≡ false → takes numbers n ≡ false → r ≡ stop (b ∷ text) → Step numbers n b text r

step_ends : (numbers : Numbers) (n b : ℕ) (text : List ℕ) (t : Bool) → is_digit b ≡ false → takes numbers n ≡ t → Step numbers n b text (cond t (found n (b ∷ text)) (stop (b ∷ text)))
step_ends numbers n b text true e k = ends e k refl
step_ends numbers n b text false e k = fails e k refl

step_goes : (numbers : Numbers) (n b : ℕ) (text : List ℕ) (t v : Bool) → is_digit b ≡ true → nat_lt 0 n ≡ t → begins numbers (10 * n + (b - 48)) ≡ v → Step numbers n b text (cond (t && v) (digits_in numbers (10 * n + (b - 48)) text) (stop (b ∷ text)))
step_goes numbers n b text true true e k l = goes_on e (ltb-true 0 n k) l refl
step_goes numbers n b text true false e k l = breaks e (λ pos. l) refl
step_goes numbers n b text false v e k l = breaks e (λ pos. absurd (clash (lt-ltb 0 n pos) k)) refl where
  clash : nat_lt 0 n ≡ true → nat_lt 0 n ≡ false → ⊥
  clash x y = cc

step_at : (numbers : Numbers) (n b : ℕ) (text : List ℕ) (t : Bool) → is_digit b ≡ t → Step numbers n b text (cond t (cond (nat_lt 0 n && begins numbers (10 * n + (b - 48))) (digits_in numbers (10 * n + (b - 48)) text) (stop (b ∷ text))) (cond (takes numbers n) (found n (b ∷ text)) (stop (b ∷ text))))
step_at numbers n b text true e = step_goes numbers n b text (nat_lt 0 n) (begins numbers (10 * n + (b - 48))) e refl refl
step_at numbers n b text false e = step_ends numbers n b text (takes numbers n) e refl

step : (numbers : Numbers) (n b : ℕ) (text : List ℕ) → Step numbers n b text (digits_in numbers n (b ∷ text))
unfolding digits_in
step numbers n b text = step_at numbers n b text (is_digit b) refl

-- the two answers at the end
data Last (numbers : Numbers) (n : ℕ) (r : Read ℕ) : Type 0 where
  whole_number : takes numbers n ≡ true → r ≡ found n [] → Last numbers n r
  no_number : takes numbers n ≡ false → r ≡ stop [] → Last numbers n r

last_at : (numbers : Numbers) (n : ℕ) (t : Bool) → takes numbers n ≡ t → Last numbers n (cond t (found n []) (stop []))
last_at numbers n true e = whole_number e refl
last_at numbers n false e = no_number e refl

last : (numbers : Numbers) (n : ℕ) → Last numbers n (digits_in numbers n [])
unfolding digits_in
last numbers n = last_at numbers n (takes numbers n) refl

no_both : (b : Bool) → b ≡ true → b ≡ false → ⊥
no_both b h k = cc

digit_of : (n b : ℕ) → NextDigit n b → is_digit b ≡ true
digit_of n b h = within 48 57 b h.low h.high

module _ (numbers : Numbers) (good : Good numbers) where
  small : (n : ℕ) → begins numbers n ≡ true → n < 2 ^ 32
  small n h = omega (arith, good.begun_small n h)

  -- the next digit of a number that is taken
  next_of : (n m b : ℕ) (u : List ℕ) → begins numbers n ≡ true → Behind numbers n m (b ∷ u) → NextDigit n b
  next_of n m b u s h = next_digit n m b u (small n s) (omega (arith, good.small m h.is)) h.text

  behind_next : (n m b : ℕ) (u : List ℕ) → NextDigit n b → Behind numbers n m (b ∷ u) → Behind numbers (10 * n + (b - 48)) m u
  behind_next n m b u d h = record { is = h.is; text = h.text ∙ sym (append_assoc (decimal n) (b ∷ []) u) ∙ ap (λ (t : List ℕ). t ++ u) d.text }

  behind_back : (n m b : ℕ) (u : List ℕ) → decimal n ++ b ∷ [] ≡ decimal (10 * n + (b - 48)) → Behind numbers (10 * n + (b - 48)) m u → Behind numbers n m (b ∷ u)
  behind_back n m b u e h = record { is = h.is; text = h.text ∙ ap (λ (t : List ℕ). t ++ u) (sym e) ∙ append_assoc (decimal n) (b ∷ []) u }

  begins_next : (n m b : ℕ) (u : List ℕ) → begins numbers n ≡ true → NextDigit n b → Behind numbers n m (b ∷ u) → begins numbers (10 * n + (b - 48)) ≡ true
  begins_next n m b u s d h =
      let k = behind_next n m b u d h in
      good.back (10 * n + (b - 48)) m u (omega (arith, good.begun_small n s, d.high)) k.is k.text

  same_number : (n m : ℕ) → begins numbers n ≡ true → Behind numbers n m [] → m ≡ n
  same_number n m s h = decimal_injective m n (omega (arith, good.small m h.is)) (omega (arith, small n s)) (h.text ∙ append-nil (decimal n))

  -- all of the number is read
  whole_end : (n m : ℕ) (w : List ℕ) → m ≡ n → takes numbers m ≡ true → StopsAt no_digit w → digits_in numbers n w ≡ found m w
  whole_end n m [] e h k = end_at (last numbers n) where
    taken : takes numbers n ≡ true
    taken = subst (λ (x : ℕ). takes numbers x ≡ true) e h

    end_at : Last numbers n (digits_in numbers n []) → digits_in numbers n [] ≡ found m []
    end_at (whole_number a r) = r ∙ ap (λ (x : ℕ). found x []) (sym e)
    end_at (no_number a r) = absurd (no_both (takes numbers n) taken a)
  whole_end n m (b ∷ w) e h k = end_at (step numbers n b w) where
    taken : takes numbers n ≡ true
    taken = subst (λ (x : ℕ). takes numbers x ≡ true) e h

    no : is_digit b ≡ false
    no = not-true (is_digit b) k

    end_at : Step numbers n b w (digits_in numbers n (b ∷ w)) → digits_in numbers n (b ∷ w) ≡ found m (b ∷ w)
    end_at (goes_on a p s r) = absurd (no_both (is_digit b) a no)
    end_at (breaks a s r) = absurd (no_both (is_digit b) a no)
    end_at (ends a s r) = r ∙ ap (λ (x : ℕ). found x (b ∷ w)) (sym e)
    end_at (fails a s r) = absurd (no_both (takes numbers n) taken s)

  whole_step : (n m b : ℕ) (u w : List ℕ) → begins numbers n ≡ true → Behind numbers n m (b ∷ u) → NextDigit n b → Step numbers n b (u ++ w) (digits_in numbers n (b ∷ (u ++ w))) → (begins numbers (10 * n + (b - 48)) ≡ true → Behind numbers (10 * n + (b - 48)) m u → digits_in numbers (10 * n + (b - 48)) (u ++ w) ≡ found m w) → digits_in numbers n (b ∷ (u ++ w)) ≡ found m w
  whole_step n m b u w s h d (goes_on a p v r) next = r ∙ next v (behind_next n m b u d h)
  whole_step n m b u w s h d (breaks a v r) next = absurd (no_both (begins numbers (10 * n + (b - 48))) (begins_next n m b u s d h) (v d.pos))
  whole_step n m b u w s h d (ends a v r) next = absurd (no_both (is_digit b) (digit_of n b d) a)
  whole_step n m b u w s h d (fails a v r) next = absurd (no_both (is_digit b) (digit_of n b d) a)

  digits_whole : (n m : ℕ) (u w : List ℕ) → begins numbers n ≡ true → Behind numbers n m u → StopsAt no_digit w → digits_in numbers n (u ++ w) ≡ found m w
  digits_whole n m [] w s h k = whole_end n m w (same_number n m s h) h.is k
  digits_whole n m (b ∷ u) w s h k =
      whole_step n m b u w s h (next_of n m b u s h) (step numbers n b (u ++ w)) (λ v i. digits_whole (10 * n + (b - 48)) m u w v i k)

  -- only a number is read
  only_nothing : (n : ℕ) (w : List ℕ) → takes numbers n ≡ true → StopsAt no_digit w → Splits (Behind numbers n) no_digit w n w
  only_nothing n w h k = record { u = []; is = record { is = h; text = sym (append-nil (decimal n)) }; text = refl; stops = k }

  only_last : (n m : ℕ) (w : List ℕ) → Last numbers n (digits_in numbers n []) → digits_in numbers n [] ≡ found m w → Splits (Behind numbers n) no_digit [] m w
  only_last n m w (whole_number a r) h =
      let value : n ≡ m = found_value r h in
      let rest : [] ≡ w = found_rest r h in
      subst (λ (t : List ℕ). Splits (Behind numbers n) no_digit [] m t) rest (subst (λ (x : ℕ). Splits (Behind numbers n) no_digit [] x []) value (only_nothing n [] a tt))
  only_last n m w (no_number a r) h = absurd cc

  only_step : (n m b : ℕ) (s w : List ℕ) → begins numbers n ≡ true → Step numbers n b s (digits_in numbers n (b ∷ s)) → digits_in numbers n (b ∷ s) ≡ found m w → (begins numbers (10 * n + (b - 48)) ≡ true → digits_in numbers (10 * n + (b - 48)) s ≡ found m w → Splits (Behind numbers (10 * n + (b - 48))) no_digit s m w) → Splits (Behind numbers n) no_digit (b ∷ s) m w
  only_step n m b s w g (goes_on a p v r) h next =
      let one = next v (sym r ∙ h) in
      let e = next_text n b (within_low 48 57 b a) (within_high 48 57 b a) p (small n g) in
      record { u = b ∷ one.u; is = behind_back n m b one.u e one.is; text = ap (λ (t : List ℕ). b ∷ t) one.text; stops = one.stops }
  only_step n m b s w g (breaks a v r) h next = absurd cc
  only_step n m b s w g (ends a v r) h next =
      let value : n ≡ m = found_value r h in
      let rest : b ∷ s ≡ w = found_rest r h in
      subst (λ (t : List ℕ). Splits (Behind numbers n) no_digit (b ∷ s) m t) rest (subst (λ (x : ℕ). Splits (Behind numbers n) no_digit (b ∷ s) x (b ∷ s)) value (only_nothing n (b ∷ s) v (ap not a)))
  only_step n m b s w g (fails a v r) h next = absurd cc

  digits_only : (n m : ℕ) (s w : List ℕ) → begins numbers n ≡ true → digits_in numbers n s ≡ found m w → Splits (Behind numbers n) no_digit s m w
  digits_only n m [] w g h = only_last n m w (last numbers n) h
  digits_only n m (b ∷ s) w g h = only_step n m b s w g (step numbers n b s) h (λ v k. digits_only (10 * n + (b - 48)) m s w v k)

  -- what is left still begins a number
  begun_here : (n left : ℕ) (s : List ℕ) → begins numbers n ≡ true → left ≡ length s → Begins (Behind numbers n) s left
  begun_here n left s g e =
      let h = good.goes n g in
      record { front = []; rest = s; more = h.1.1.more; value = h.0; is = record { is = h.1.0; text = h.1.1.text }; text = refl; left_is = e }

  begun_last : (n left : ℕ) → begins numbers n ≡ true → Last numbers n (digits_in numbers n []) → digits_in numbers n [] ≡ Err left → Begins (Behind numbers n) [] left
  begun_last n left g (whole_number a r) h = absurd cc
  begun_last n left g (no_number a r) h = begun_here n left [] g (cc)

  begun_step : (n b left : ℕ) (s : List ℕ) → begins numbers n ≡ true → Step numbers n b s (digits_in numbers n (b ∷ s)) → digits_in numbers n (b ∷ s) ≡ Err left → (begins numbers (10 * n + (b - 48)) ≡ true → digits_in numbers (10 * n + (b - 48)) s ≡ Err left → Begins (Behind numbers (10 * n + (b - 48))) s left) → Begins (Behind numbers n) (b ∷ s) left
  begun_step n b left s g (goes_on a p v r) h next =
      let one = next v (sym r ∙ h) in
      let e = next_text n b (within_low 48 57 b a) (within_high 48 57 b a) p (small n g) in
      record {
        front = b ∷ one.front;
        rest = one.rest;
        more = one.more;
        value = one.value;
        is = behind_back n one.value b (one.front ++ one.more) e one.is;
        text = ap (λ (t : List ℕ). b ∷ t) one.text;
        left_is = one.left_is;
      }
  begun_step n b left s g (breaks a v r) h next = begun_here n left (b ∷ s) g (cc)
  begun_step n b left s g (ends a v r) h next = absurd cc
  begun_step n b left s g (fails a v r) h next = begun_here n left (b ∷ s) g (cc)

  digits_begun : (n left : ℕ) (s : List ℕ) → begins numbers n ≡ true → digits_in numbers n s ≡ Err left → Begins (Behind numbers n) s left
  digits_begun n left [] g h = begun_last n left g (last numbers n) h
  digits_begun n left (b ∷ s) g h = begun_step n b left s g (step numbers n b s) h (λ v k. digits_begun (10 * n + (b - 48)) left s v k)

  -- and no longer front does
  most_step : (n m b left : ℕ) (front rest more : List ℕ) → begins numbers n ≡ true → Behind numbers n m (b ∷ (front ++ more)) → NextDigit n b → Step numbers n b (front ++ rest) (digits_in numbers n (b ∷ (front ++ rest))) → digits_in numbers n (b ∷ (front ++ rest)) ≡ Err left → (begins numbers (10 * n + (b - 48)) ≡ true → digits_in numbers (10 * n + (b - 48)) (front ++ rest) ≡ Err left → Behind numbers (10 * n + (b - 48)) m (front ++ more) → left ≤ length rest) → left ≤ length rest
  most_step n m b left front rest more g k d (goes_on a p v r) h next = next v (sym r ∙ h) (behind_next n m b (front ++ more) d k)
  most_step n m b left front rest more g k d (breaks a v r) h next = absurd (no_both (begins numbers (10 * n + (b - 48))) (begins_next n m b (front ++ more) g d k) (v d.pos))
  most_step n m b left front rest more g k d (ends a v r) h next = absurd (no_both (is_digit b) (digit_of n b d) a)
  most_step n m b left front rest more g k d (fails a v r) h next = absurd (no_both (is_digit b) (digit_of n b d) a)

  digits_most : (n m left : ℕ) (front rest more : List ℕ) → begins numbers n ≡ true → digits_in numbers n (front ++ rest) ≡ Err left → Behind numbers n m (front ++ more) → left ≤ length rest
  digits_most n m left [] rest more g h k = left_within (digits_begun n left rest g h)
  digits_most n m left (b ∷ front) rest more g h k =
      most_step n m b left front rest more g k (next_of n m b (front ++ more) g k) (step numbers n b (front ++ rest)) h
      (λ v e i. digits_most (10 * n + (b - 48)) m left front rest more v e i)

  -- the first digit
  number_step : (b : ℕ) (s : List ℕ) → is_digit b ≡ true → begins numbers (b - 48) ≡ true → number_in numbers (b ∷ s) ≡ digits_in numbers (b - 48) s
  unfolding number_in
  number_step b s h k = ap (λ (t : Bool). cond t (digits_in numbers (b - 48) s) (stop (b ∷ s))) (and-both (is_digit b) (begins numbers (b - 48)) h k)

  of_first : (m b : ℕ) (u : List ℕ) → takes numbers m ≡ true → decimal m ≡ b ∷ u → (is_digit b ≡ true) × (Behind numbers (b - 48) m u)
  of_first m b u h e =
      let d = first_digit m (omega (arith, good.small m h)) in
      let head : d.digit ≡ b = cc (d.text, e) in
      let tail : d.more ≡ u = cc (d.text, e) in (
        within 48 57 b (omega (arith, d.low, head)) (omega (arith, d.high, head)),
        record { is = h; text = d.begins ∙ ap (λ (x : ℕ). decimal (x - 48) ++ d.more) head ∙ ap (λ (t : List ℕ). decimal (b - 48) ++ t) tail },
      )

  begins_first : (m b : ℕ) (u : List ℕ) → is_digit b ≡ true → Behind numbers (b - 48) m u → begins numbers (b - 48) ≡ true
  begins_first m b u d h = good.back (b - 48) m u (omega (arith, within_high 48 57 b d)) h.is h.text

  to_first : (m b : ℕ) (u : List ℕ) → is_digit b ≡ true → Behind numbers (b - 48) m u → decimal m ≡ b ∷ u
  to_first m b u d h =
      let low = within_low 48 57 b d in
      let digit : decimal (b - 48) ≡ b ∷ [] = decimal_digit (b - 48) (omega (arith, within_high 48 57 b d)) ∙ ap (λ (k : ℕ). k ∷ []) (back_to b low) in
      h.text ∙ ap (λ (t : List ℕ). t ++ u) digit where
        back_to : (b : ℕ) → 48 ≤ b → 48 + (b - 48) ≡ b
        back_to b low = omega arith

  -- the answers at the first byte
  data First (b : ℕ) (s : List ℕ) (r : Read ℕ) : Type 0 where
    starts : is_digit b ≡ true → begins numbers (b - 48) ≡ true → r ≡ digits_in numbers (b - 48) s → First b s r
    stays : (is_digit b ≡ true → begins numbers (b - 48) ≡ true → ⊥) → r ≡ stop (b ∷ s) → First b s r

  first_at : (b : ℕ) (s : List ℕ) (t v : Bool) → is_digit b ≡ t → begins numbers (b - 48) ≡ v → First b s (cond (t && v) (digits_in numbers (b - 48) s) (stop (b ∷ s)))
  first_at b s true true h k = starts h k refl
  first_at b s true false h k = stays (λ x y. no_both (begins numbers (b - 48)) y k) refl
  first_at b s false v h k = stays (λ x y. no_both (is_digit b) x h) refl

  first : (b : ℕ) (s : List ℕ) → First b s (number_in numbers (b ∷ s))
  unfolding number_in
  first b s = first_at b s (is_digit b) (begins numbers (b - 48)) refl refl

  number_whole_at : (m : ℕ) (u w : List ℕ) → takes numbers m ≡ true → decimal m ≡ u → StopsAt no_digit w → number_in numbers (u ++ w) ≡ found m w
  number_whole_at m [] w h e k =
      let d = first_digit m (omega (arith, good.small m h)) in
      absurd (cc (d.text, e))
  number_whole_at m (b ∷ u) w h e k =
      let d = of_first m b u h e in
      let g = begins_first m b u d.0 d.1 in
      number_step b (u ++ w) d.0 g ∙ digits_whole (b - 48) m u w g d.1 k

  number_only_at : (s w : List ℕ) (m b : ℕ) → First b s (number_in numbers (b ∷ s)) → number_in numbers (b ∷ s) ≡ found m w → Splits (Number numbers) no_digit (b ∷ s) m w
  number_only_at s w m b (starts d g r) h =
      let one = digits_only (b - 48) m s w g (sym r ∙ h) in
      record { u = b ∷ one.u; is = record { is = one.is.is; text = sym (to_first m b one.u d one.is) }; text = ap (λ (t : List ℕ). b ∷ t) one.text; stops = one.stops }
  number_only_at s w m b (stays never r) h = absurd cc

  number_only : (s w : List ℕ) (m : ℕ) → number_in numbers s ≡ found m w → Splits (Number numbers) no_digit s m w
  unfolding number_in
  number_only [] w m h = absurd (cc (h))
  number_only (b ∷ s) w m h = number_only_at s w m b (first b s) h

  number_nothing : (s : List ℕ) (left a : ℕ) (u : List ℕ) → left ≡ length s → Number numbers a u → Begins (Number numbers) s left
  number_nothing s left a u e k = record { front = []; rest = s; more = u; value = a; is = k; text = refl; left_is = e }

  number_begun_at : (s : List ℕ) (left b : ℕ) → First b s (number_in numbers (b ∷ s)) → number_in numbers (b ∷ s) ≡ Err left → (a : ℕ) (u : List ℕ) → Number numbers a u → Begins (Number numbers) (b ∷ s) left
  number_begun_at s left b (starts d g r) h a u k =
      let one = digits_begun (b - 48) left s g (sym r ∙ h) in
      record {
        front = b ∷ one.front;
        rest = one.rest;
        more = one.more;
        value = one.value;
        is = record { is = one.is.is; text = sym (to_first one.value b (one.front ++ one.more) d one.is) };
        text = ap (λ (t : List ℕ). b ∷ t) one.text;
        left_is = one.left_is;
      }
  number_begun_at s left b (stays never r) h a u k = number_nothing (b ∷ s) left a u (cc) k

  number_begun : (s : List ℕ) (left : ℕ) → number_in numbers s ≡ Err left → (a : ℕ) (u : List ℕ) → Number numbers a u → Begins (Number numbers) s left
  unfolding number_in
  number_begun [] left h a u k = number_nothing [] left a u (cc) k
  number_begun (b ∷ s) left h a u k = number_begun_at s left b (first b s) h a u k

  number_most_at : (left m b : ℕ) (front rest more : List ℕ) → First b (front ++ rest) (number_in numbers (b ∷ (front ++ rest))) → number_in numbers (b ∷ (front ++ rest)) ≡ Err left → takes numbers m ≡ true → decimal m ≡ b ∷ (front ++ more) → left ≤ length rest
  number_most_at left m b front rest more (starts d g r) h t e = digits_most (b - 48) m left front rest more g (sym r ∙ h) (of_first m b (front ++ more) t e).1
  number_most_at left m b front rest more (stays never r) h t e =
      let k = of_first m b (front ++ more) t e in
      absurd (never k.0 (begins_first m b (front ++ more) k.0 k.1))

  number_most : (left m : ℕ) (front rest more : List ℕ) → number_in numbers (front ++ rest) ≡ Err left → Number numbers m (front ++ more) → left ≤ length rest
  number_most left m [] rest more h k = left_within (number_begun rest left h m more k)
  number_most left m (b ∷ front) rest more h k = number_most_at left m b front rest more (first b (front ++ rest)) h k.is (sym k.text)

  -- a number that may stand here
  pub number_part : Part (Number numbers) no_digit (number_in numbers)
  number_part = record {
    whole = λ a u w h k. number_whole_at a u w h.is (sym h.text) k;
    only = λ s a w h. number_only s w a h;
    begun = λ s left h a u k. number_begun s left h a u k;
    most = λ s left h front rest more a t k. number_most left a front rest more (ap (number_in numbers) (sym t) ∙ h) k;
  }
