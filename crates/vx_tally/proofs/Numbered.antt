-- Entries in the order of their numbers: which there are, one more behind them, and one that is taken out.
use Rattle.std.proofs.Common.{◌≡◌, ℕ, suc, ◌+◌, ◌<◌, ◌≤◌, Bool, true, false, cond, not, ◌&&◌, ◌||◌, ◌==◌, List, [], ◌∷◌, ◌++◌, Ordering, refl, sym, ap, ap₂, ◌∙◌, arith}
use Rattle.std.specs.Prelude.{sum_by, remove, nat_lt, nat_le}
use Rattle.std.specs.List.{list_any, list_all, position_or_len, AllByRecursion}
use Rattle.std.specs.List.Sorted.{IsStrictlySortedBy}
use Rattle.std.specs.Map.{keys_of, values_of, remove_entry}
use Rattle.std.specs.BTreeMap.{insert_entry}
use Rattle.std.specs.Ordering.{match_ordering, is_eq, nat_cmp, ordering_then}
use Rattle.std.specs.declared.cmp.Ordering.TheVariants.{Less, Equal, Greater}
use Rattle.std.proofs.lemmas.Bool.Decides.{nat_tests}
use Rattle.std.proofs.lemmas.Map.Keys.{sorted_head, sorted_tail}
use Rattle.vx_base.proofs.Booleans.{and-both, and-left, and-right, not-both}
use Rattle.vx_base.proofs.Numbers.{equal-from_yes, below-yes, below-from_yes, below-from_no, at_most-yes, at_most-from_yes}
use Rattle.vx_tally.specs.declared.report.CvrRecord.{CvrRecord}
use Rattle.vx_tally.specs.Kept.{Entry, key_cmp, put, in_order}
use Rattle.vx_tally.proofs.Summed.{sum-cons}

-- what tests say of entries in another order

or-turned : (a b c : Bool) → a || (b || c) ≡ b || (a || c)
or-turned true true c = refl
or-turned true false c = refl
or-turned false b c = refl

and-turned : (a b c : Bool) → a && (b && c) ≡ b && (a && c)
and-turned true b c = refl
and-turned false true c = refl
and-turned false false c = refl

any-put : (p : Entry → Bool) (one : Entry) (xs : List Entry) → list_any p (put one xs) ≡ p one || list_any p xs
any-put p one [] = refl
any-put p one (x ∷ xs) = by (nat_lt one.0.1 x.0.1) (any-put p one xs)
  where
    by : (b : Bool) → list_any p (put one xs) ≡ p one || list_any p xs
        → list_any p (cond b (one ∷ x ∷ xs) (x ∷ put one xs)) ≡ p one || (p x || list_any p xs)
    by true rest = refl
    by false rest = ap (λ b. p x || b) rest ∙ or-turned (p x) (p one) (list_any p xs)

all-put : (p : Entry → Bool) (one : Entry) (xs : List Entry) → list_all p (put one xs) ≡ p one && list_all p xs
all-put p one [] = refl
all-put p one (x ∷ xs) = by (nat_lt one.0.1 x.0.1) (all-put p one xs)
  where
    by : (b : Bool) → list_all p (put one xs) ≡ p one && list_all p xs
        → list_all p (cond b (one ∷ x ∷ xs) (x ∷ put one xs)) ≡ p one && (p x && list_all p xs)
    by true rest = refl
    by false rest = ap (λ b. p x && b) rest ∙ and-turned (p x) (p one) (list_all p xs)

pub any-in_order : (p : Entry → Bool) (es : List Entry) → list_any p (in_order es) ≡ list_any p es
any-in_order p [] = refl
any-in_order p (e ∷ es) = any-put p e (in_order es) ∙ ap (λ b. p e || b) (any-in_order p es)

pub all-in_order : (p : Entry → Bool) (es : List Entry) → list_all p (in_order es) ≡ list_all p es
all-in_order p [] = refl
all-in_order p (e ∷ es) = all-put p e (in_order es) ∙ ap (λ b. p e && b) (all-in_order p es)

module _ (own : CvrRecord → ℕ) where
  sum-put : (one : Entry) (xs : List Entry) → sum_by own (values_of (put one xs)) ≡ own one.1 + sum_by own (values_of xs)
  sum-put one [] = sum-cons own one.1 []
  sum-put one (x ∷ xs) = by (nat_lt one.0.1 x.0.1) (sum-put one xs)
    where
      by : (b : Bool) → sum_by own (values_of (put one xs)) ≡ own one.1 + sum_by own (values_of xs)
          → sum_by own (values_of (cond b (one ∷ x ∷ xs) (x ∷ put one xs))) ≡ own one.1 + sum_by own (values_of (x ∷ xs))
      by true rest = sum-cons own one.1 (values_of (x ∷ xs))
      by false rest = omega (arith, sum-cons own x.1 (values_of (put one xs)), sum-cons own x.1 (values_of xs), rest)

  pub sum-in_order : (es : List Entry) → sum_by own (values_of (in_order es)) ≡ sum_by own (values_of es)
  sum-in_order [] = refl
  sum-in_order (e ∷ es) = omega (arith, sum-put e (in_order es), sum-in_order es, sum-cons own e.1 (values_of es))

-- one more, whose number is above the others

put-last : (one : Entry) (xs : List Entry) → list_all (λ (e : Entry). nat_lt e.0.1 one.0.1) xs ≡ true → put one xs ≡ xs ++ one ∷ []
put-last one [] below = refl
put-last one (x ∷ xs) below =
    by (nat_lt one.0.1 x.0.1) refl (put-last one xs (and-right (nat_lt x.0.1 one.0.1) _ below))
  where
    lt : x.0.1 < one.0.1
    lt = below-from_yes x.0.1 one.0.1 (and-left _ _ below)

    by : (b : Bool) → nat_lt one.0.1 x.0.1 ≡ b → put one xs ≡ xs ++ one ∷ [] → cond b (one ∷ x ∷ xs) (x ∷ put one xs) ≡ x ∷ (xs ++ one ∷ [])
    by true e rest = absurd (omega (arith, lt, below-from_yes one.0.1 x.0.1 e))
    by false e rest = ap (λ (more : List Entry). x ∷ more) rest

put-behind : (one last : Entry) (xs : List Entry) → one.0.1 < last.0.1 → put one (xs ++ last ∷ []) ≡ put one xs ++ last ∷ []
put-behind one last [] lt = ap (λ b. cond b (one ∷ last ∷ []) (last ∷ one ∷ [])) (below-yes one.0.1 last.0.1 lt)
put-behind one last (x ∷ xs) lt = by (nat_lt one.0.1 x.0.1) (put-behind one last xs lt)
  where
    by : (b : Bool) → put one (xs ++ last ∷ []) ≡ put one xs ++ last ∷ []
        → cond b (one ∷ x ∷ (xs ++ last ∷ [])) (x ∷ put one (xs ++ last ∷ [])) ≡ cond b (one ∷ x ∷ xs) (x ∷ put one xs) ++ last ∷ []
    by true rest = refl
    by false rest = ap (λ (more : List Entry). x ∷ more) rest

same-number : (a b c d : ℕ) → ordering_then (nat_cmp a c) (nat_cmp b d) ≡ Equal → b ≡ d
same-number a b c d e = grind (arith, nat_tests)

pub in_order-insert : (last : Entry) (es : List Entry) → list_all (λ (e : Entry). nat_lt e.0.1 last.0.1) es ≡ true
    → in_order (insert_entry key_cmp es last.0 last.1) ≡ in_order es ++ last ∷ []
in_order-insert last [] below = refl
in_order-insert last (e ∷ es) below =
    by (key_cmp last.0 e.0) refl (in_order-insert last es (and-right (nat_lt e.0.1 last.0.1) _ below))
  where
    lt : e.0.1 < last.0.1
    lt = below-from_yes e.0.1 last.0.1 (and-left _ _ below)

    by : (o : Ordering) → key_cmp last.0 e.0 ≡ o → in_order (insert_entry key_cmp es last.0 last.1) ≡ in_order es ++ last ∷ []
        → in_order (match_ordering o (last ∷ e ∷ es) ((e.0, last.1) ∷ es) (e ∷ insert_entry key_cmp es last.0 last.1)) ≡ in_order (e ∷ es) ++ last ∷ []
    by Less is rest = put-last last (in_order (e ∷ es)) (all-in_order (λ (e : Entry). nat_lt e.0.1 last.0.1) (e ∷ es) ∙ below)
    by Equal is rest = absurd (omega (arith, lt, same-number last.0.0 last.0.1 e.0.0 e.0.1 is))
    by Greater is rest = ap (put e) rest ∙ put-behind e last (in_order es) lt

pub all-insert : (p : Entry → Bool) (last : Entry) (es : List Entry) → list_all (λ (e : Entry). nat_lt e.0.1 last.0.1) es ≡ true
    → list_all p es ≡ true → p last ≡ true → list_all p (insert_entry key_cmp es last.0 last.1) ≡ true
all-insert p last [] below all this = and-both (p last) true this refl
all-insert p last (e ∷ es) below all this =
    by (key_cmp last.0 e.0) refl (all-insert p last es (and-right (nat_lt e.0.1 last.0.1) _ below) (and-right (p e) _ all) this)
  where
    lt : e.0.1 < last.0.1
    lt = below-from_yes e.0.1 last.0.1 (and-left _ _ below)

    by : (o : Ordering) → key_cmp last.0 e.0 ≡ o → list_all p (insert_entry key_cmp es last.0 last.1) ≡ true
        → list_all p (match_ordering o (last ∷ e ∷ es) ((e.0, last.1) ∷ es) (e ∷ insert_entry key_cmp es last.0 last.1)) ≡ true
    by Less is rest = and-both (p last) _ this all
    by Equal is rest = absurd (omega (arith, lt, same-number last.0.0 last.0.1 e.0.0 e.0.1 is))
    by Greater is rest = and-both (p e) _ (and-left (p e) _ all) rest

pub all-weaker : {X : Type 0} (p q : X → Bool) → ((x : X) → p x ≡ true → q x ≡ true) → (xs : List X) → list_all p xs ≡ true → list_all q xs ≡ true
all-weaker p q step [] all = refl
all-weaker p q step (x ∷ xs) all =
    and-both (q x) _ (step x (and-left (p x) _ all)) (all-weaker p q step xs (and-right (p x) _ all))

pub all-removed : (p : Entry → Bool) (test : ℕ × ℕ → Bool) (es : List Entry) → list_all p es ≡ true → list_all p (remove_entry test es) ≡ true
all-removed p test [] all = refl
all-removed p test (e ∷ es) all = by (test e.0) (all-removed p test es (and-right (p e) _ all))
  where
    by : (b : Bool) → list_all p (remove_entry test es) ≡ true → list_all p (cond b es (e ∷ remove_entry test es)) ≡ true
    by true rest = and-right (p e) _ all
    by false rest = and-both (p e) _ (and-left (p e) _ all) rest

-- numbers that don't fall

abbrev pub Ascends : List Entry → Type 0
Ascends [] = Unit {0}
Ascends (x ∷ xs) = (list_all (λ (e : Entry). nat_le x.0.1 e.0.1) xs ≡ true) × Ascends xs

put-ascends : (one : Entry) (xs : List Entry) → Ascends xs → Ascends (put one xs)
put-ascends one [] up = (refl, tt)
put-ascends one (x ∷ xs) up = by (nat_lt one.0.1 x.0.1) refl (put-ascends one xs up.1)
  where
    by : (b : Bool) → nat_lt one.0.1 x.0.1 ≡ b → Ascends (put one xs) → Ascends (cond b (one ∷ x ∷ xs) (x ∷ put one xs))
    by true e rest =
        let lt : one.0.1 < x.0.1 = below-from_yes one.0.1 x.0.1 e in
        let step : (y : Entry) → nat_le x.0.1 y.0.1 ≡ true → nat_le one.0.1 y.0.1 ≡ true =
        λ y is. at_most-yes one.0.1 y.0.1 (omega (arith, lt, at_most-from_yes x.0.1 y.0.1 is)) in (
          and-both _ _ (at_most-yes one.0.1 x.0.1 (omega (arith, lt)))
              (all-weaker (λ (e : Entry). nat_le x.0.1 e.0.1) (λ (e : Entry). nat_le one.0.1 e.0.1) step xs up.0),
          up,
        )
    by false e rest = (
      all-put (λ (e : Entry). nat_le x.0.1 e.0.1) one xs ∙ and-both _ _ (at_most-yes x.0.1 one.0.1 (below-from_no one.0.1 x.0.1 e)) up.0,
      rest,
    )

pub in_order-ascends : (es : List Entry) → Ascends (in_order es)
in_order-ascends [] = tt
in_order-ascends (e ∷ es) = put-ascends e (in_order es) (in_order-ascends es)

-- one that is taken out

put-front : (one : Entry) (n : ℕ) (xs : List Entry) → one.0.1 < n → list_all (λ (e : Entry). nat_le n e.0.1) xs ≡ true → put one xs ≡ one ∷ xs
put-front one n [] lt above = refl
put-front one n (x ∷ xs) lt above =
    ap (λ b. cond b (one ∷ x ∷ xs) (x ∷ put one xs)) (below-yes one.0.1 x.0.1 (omega (arith, lt, at_most-from_yes n x.0.1 (and-left _ _ above))))

module _ (test : ℕ × ℕ → Bool) where
  put-taken : (one : Entry) (xs : List Entry) → test one.0 ≡ true → list_any (λ (e : Entry). test e.0) xs ≡ false → remove_entry test (put one xs) ≡ xs
  put-taken one [] is none = ap (λ b. cond b [] (one ∷ [])) is
  put-taken one (x ∷ xs) is none = by (nat_lt one.0.1 x.0.1) (test x.0) refl (put-taken one xs is)
    where
      by : (b c : Bool) → test x.0 ≡ c → (list_any (λ (e : Entry). test e.0) xs ≡ false → remove_entry test (put one xs) ≡ xs)
          → remove_entry test (cond b (one ∷ x ∷ xs) (x ∷ put one xs)) ≡ x ∷ xs
      by true c e rest = ap (λ b. cond b (x ∷ xs) (one ∷ remove_entry test (x ∷ xs))) is
      by false true e rest = absurd (not-both true refl (sym (ap (λ b. b || list_any (λ (e : Entry). test e.0) xs) e) ∙ none))
      by false false e rest =
          ap (λ b. cond b (put one xs) (x ∷ remove_entry test (put one xs))) e
          ∙ ap (λ (more : List Entry). x ∷ more) (rest (sym (ap (λ b. b || list_any (λ (e : Entry). test e.0) xs) e) ∙ none))

  put-left : (one : Entry) (xs : List Entry) → test one.0 ≡ false → Ascends xs → remove_entry test (put one xs) ≡ put one (remove_entry test xs)
  put-left one [] other up = ap (λ b. cond b [] (one ∷ [])) other
  put-left one (x ∷ xs) other up = by (nat_lt one.0.1 x.0.1) (test x.0) refl refl (put-left one xs other up.1)
    where
      by : (b c : Bool) → nat_lt one.0.1 x.0.1 ≡ b → test x.0 ≡ c → remove_entry test (put one xs) ≡ put one (remove_entry test xs)
          → remove_entry test (cond b (one ∷ x ∷ xs) (x ∷ put one xs)) ≡ put one (remove_entry test (x ∷ xs))
      by true true e f rest = rw (other, f) (sym (put-front one x.0.1 xs (below-from_yes one.0.1 x.0.1 e) up.0))
      by true false e f rest = rw (other, f, e) refl
      by false true e f rest = rw f refl
      by false false e f rest = rw (f, e) (ap (λ (more : List Entry). x ∷ more) rest)

-- the test of a key
abbrev pub at_key : ℕ × ℕ → ℕ × ℕ → Bool
at_key k q = is_eq (key_cmp k q)

mark-equal : (a b c d : ℕ) → is_eq (ordering_then (nat_cmp a c) (nat_cmp b d)) ≡ true → a ≡ c
mark-equal a b c d e = grind (arith, nat_tests)

number-equal : (a b c d : ℕ) → is_eq (ordering_then (nat_cmp a c) (nat_cmp b d)) ≡ true → b ≡ d
number-equal a b c d e = grind (arith, nat_tests)

key-equal : (a b c d : ℕ) → a ≡ c → b ≡ d → is_eq (ordering_then (nat_cmp a c) (nat_cmp b d)) ≡ true
key-equal a b c d e f = grind (arith, nat_tests)

number-above : (a b c d : ℕ) → ordering_then (nat_cmp a c) (nat_cmp b d) ≡ Less → a ≡ c → b < d
number-above a b c d e f = grind (arith, nat_tests)

-- no key behind one is equal to it
pub none-behind : (k q : ℕ × ℕ) (es : List Entry) → at_key k q ≡ true → AllByRecursion (λ (other : ℕ × ℕ). key_cmp q other ≡ Less) (keys_of es)
    → list_any (λ (e : Entry). at_key k e.0) es ≡ false
none-behind k q [] is above = refl
none-behind k q (e ∷ es) is above =
    ap (λ b. b || list_any (λ (e : Entry). at_key k e.0) es) (apart (at_key k e.0) refl) ∙ none-behind k q es is above.1
  where
    apart : (b : Bool) → at_key k e.0 ≡ b → b ≡ false
    apart false same = refl
    apart true same =
        let marks = mark-equal k.0 k.1 e.0.0 e.0.1 same in
        let numbers = number-equal k.0 k.1 e.0.0 e.0.1 same in
        let other-marks = mark-equal k.0 k.1 q.0 q.1 is in
        let other-numbers = number-equal k.0 k.1 q.0 q.1 is in
        absurd (omega (arith, number-above q.0 q.1 e.0.0 e.0.1 above.0 (sym other-marks ∙ marks), numbers, other-numbers))

pub in_order-removed : (k : ℕ × ℕ) (es : List Entry) → IsStrictlySortedBy key_cmp (keys_of es)
    → in_order (remove_entry (at_key k) es) ≡ remove_entry (at_key k) (in_order es)
in_order-removed k [] sorted = refl
in_order-removed k (e ∷ es) sorted = by (at_key k e.0) refl (in_order-removed k es (sorted_tail key_cmp e.0 (keys_of es) sorted))
  where
    by : (b : Bool) → at_key k e.0 ≡ b → in_order (remove_entry (at_key k) es) ≡ remove_entry (at_key k) (in_order es)
        → in_order (cond b es (e ∷ remove_entry (at_key k) es)) ≡ remove_entry (at_key k) (put e (in_order es))
    by true is rest =
        sym (put-taken (at_key k) e (in_order es) is (any-in_order (λ (e : Entry). at_key k e.0) es
        ∙ none-behind k e.0 es is (sorted_head key_cmp e.0 (keys_of es) sorted)))
    by false is rest = ap (put e) rest ∙ sym (put-left (at_key k) e (in_order es) is (in_order-ascends es))

one-more : (n : ℕ) → ◌≡◌ {A = ℕ} (1 + n) (suc n)
one-more n = omega arith

remove-behind : {X : Type 0} (x : X) (xs : List X) (n : ℕ) → remove (x ∷ xs) (1 + n) ≡ x ∷ remove xs n
remove-behind x xs n = ap (remove (x ∷ xs)) (one-more n)

-- a key is that of the first record that passes, or of none
module _ (test : CvrRecord → Bool) (k : ℕ × ℕ) where
  -- what an entry says of that: one that passes has the mark and no lesser number, and one that doesn't has another key
  abbrev pub fits : Entry → Bool
  fits e = cond (test e.1) (k.0 == e.0.0 && nat_le k.1 e.0.1) (not (at_key k e.0))

  least : (n : ℕ) (xs : List Entry) → list_all (λ (e : Entry). nat_le n e.0.1) xs ≡ true → list_any (λ (e : Entry). at_key k e.0) xs ≡ true → n ≤ k.1
  least n [] above there = absurd cc
  least n (x ∷ xs) above there = by (at_key k x.0) refl (least n xs (and-right (nat_le n x.0.1) _ above))
    where
      by : (b : Bool) → at_key k x.0 ≡ b → (list_any (λ (e : Entry). at_key k e.0) xs ≡ true → n ≤ k.1) → n ≤ k.1
      by true is rest = omega (arith, number-equal k.0 k.1 x.0.0 x.0.1 is, at_most-from_yes n x.0.1 (and-left _ _ above))
      by false is rest = rest (sym (ap (λ b. b || list_any (λ (e : Entry). at_key k e.0) xs) is) ∙ there)

  pub values-removed : (xs : List Entry) → Ascends xs → list_any (λ (e : Entry). at_key k e.0) xs ≡ true → list_all fits xs ≡ true
      → values_of (remove_entry (at_key k) xs) ≡ remove (values_of xs) (position_or_len test (values_of xs))
  values-removed [] up there all = absurd cc
  values-removed (x ∷ xs) up there all =
      by (test x.1) (at_key k x.0) refl refl (λ there. values-removed xs up.1 there (and-right (fits x) _ all))
    where
      there-behind : at_key k x.0 ≡ false → list_any (λ (e : Entry). at_key k e.0) xs ≡ true
      there-behind is = sym (ap (λ b. b || list_any (λ (e : Entry). at_key k e.0) xs) is) ∙ there

      own : (b c : Bool) → test x.1 ≡ b → at_key k x.0 ≡ c → cond b (k.0 == x.0.0 && nat_le k.1 x.0.1) (not c) ≡ true
      own b c e f = sym (ap₂ (λ b c. cond b (k.0 == x.0.0 && nat_le k.1 x.0.1) (not c)) e f) ∙ and-left (fits x) _ all

      by : (b c : Bool) → test x.1 ≡ b → at_key k x.0 ≡ c
          → (list_any (λ (e : Entry). at_key k e.0) xs ≡ true
          → values_of (remove_entry (at_key k) xs) ≡ remove (values_of xs) (position_or_len test (values_of xs)))
          → values_of (remove_entry (at_key k) (x ∷ xs)) ≡ remove (values_of (x ∷ xs)) (position_or_len test (values_of (x ∷ xs)))
      by true true e f rest = rw (f, e) refl
      by false false e f rest =
          rw (f, e) (ap (λ (more : List CvrRecord). x.1 ∷ more) (rest (there-behind f))
          ∙ sym (remove-behind x.1 (values_of xs) (position_or_len test (values_of xs))))
      by false true e f rest = absurd (not-both false (own false true e f) refl)
      by true false e f rest =
          let marks = equal-from_yes k.0 x.0.0 (and-left _ _ (own true false e f)) in
          let most = at_most-from_yes k.1 x.0.1 (and-right (k.0 == x.0.0) _ (own true false e f)) in
          let lowest = least x.0.1 xs up.0 (there-behind f) in
          let numbers : k.1 ≡ x.0.1 = omega (arith, most, lowest) in
          absurd (not-both (at_key k x.0) (key-equal k.0 k.1 x.0.0 x.0.1 marks numbers) f)
