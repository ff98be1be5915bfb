-- The first line of bytes, and the lines behind it.
use Rattle.std.proofs.Common.{◌≡◌, ℕ, suc, ◌+◌, ◌-◌, ◌<◌, ◌==◌, Bool, true, false, cond, List, [], ◌∷◌, length, take, drop, Some, None, refl, ap, ap₂, sym, ◌∙◌, arith}
use Rattle.std.specs.Prelude.{IfSome, nat_lt}
use Rattle.std.specs.List.{position_or_len, position_from, before_first, after_first}
use Rattle.std.proofs.lemmas.Bool.Decides.{nat_tests}
use Rattle.std.proofs.lemmas.List.{drop_all, take_rest}
use Rattle.std.proofs.lemmas.Iterator.Adapters.{position_from-zero}
use Rattle.std.proofs.lemmas.List.Splits.{slice_split_first}
use Rattle.vx_audit.specs.Hand.{lines_of, without_empty_end}
use Rattle.vx_audit.proofs.Blanks.{some-word, one-word}

pub position-within : {X : Type 0} (p : X → Bool) (n : ℕ) (xs : List X) (end : ℕ) → n + length xs ≡ end → IfSome (position_from p n xs) (λ m. m < end)
position-within p n [] end is = tt
position-within p n (x ∷ xs) end is = by (p x) (position-within p (n + 1) xs end (omega (arith, is)))
  where
    by : (b : Bool) → IfSome (position_from p (n + 1) xs) (λ m. m < end) → IfSome (cond b (Some n) (position_from p (n + 1) xs)) (λ m. m < end)
    by true rest = omega (arith, is)
    by false rest = rest

-- where a test passes first, if it does
found-at : (p : ℕ → Bool) (text : List ℕ) (at : ℕ) → position_from p 0 text ≡ Some at → (position_or_len p text ≡ at) × (position_or_len p text < length text)
found-at p text at e = by (nat_lt (position_or_len p text) (length text)) refl (position_from-zero p text ∙ e)
  where
    by : (b : Bool) → nat_lt (position_or_len p text) (length text) ≡ b → cond b (Some (position_or_len p text)) None ≡ Some at
        → (position_or_len p text ≡ at) × (position_or_len p text < length text)
    by true is f = (cc, grind (arith, nat_tests))
    by false is f = absurd cc

nowhere : (p : ℕ → Bool) (n : ℕ) (text : List ℕ) → position_from p n text ≡ None → position_or_len p text ≡ length text
nowhere p n [] e = refl
nowhere p n (b ∷ text) e = by (p b) refl e (nowhere p (n + 1) text)
  where
    by : (c : Bool) → p b ≡ c → cond c (Some n) (position_from p (n + 1) text) ≡ None → (position_from p (n + 1) text ≡ None → position_or_len p text ≡ length text)
        → position_or_len p (b ∷ text) ≡ suc (length text)
    by true is f rest = absurd cc
    by false is f rest =
        let more : position_or_len p (b ∷ text) ≡ 1 + position_or_len p text = rw is refl in
        omega (arith, more, rest f)

no-zero : (n : ℕ) → 0 < n → (n == 0) ≡ false
no-zero n lt = grind (arith, nat_tests)

nothing-left : (text : List ℕ) → take (length text - length text) (drop (length text) text) ≡ []
nothing-left text = take_rest text (length text) ∙ drop_all (length text) text (omega arith)

-- the last line, which lacks its line feed
pub last-line : (text : List ℕ) → 0 < length text → position_or_len (λ b. b == 10) text ≡ length text
    → lines_of text ≡ text ∷ lines_of (take (length text - length text) (drop (length text) text))
last-line text some e =
    ap without_empty_end (one-word (λ b. b == 10) text e)
    ∙ ap (λ b. cond b [] (text ∷ [])) (no-zero (length text) some)
    ∙ ap (λ (rest : List ℕ). text ∷ lines_of rest) (sym (nothing-left text))

pub no-feed : (text : List ℕ) → position_from (λ b. b == 10) 0 text ≡ None → position_or_len (λ b. b == 10) text ≡ length text
no-feed text e = nowhere (λ b. b == 10) 0 text e

-- a line before a line feed
pub fed-line : (text : List ℕ) (at : ℕ) → position_from (λ b. b == 10) 0 text ≡ Some at
    → lines_of text ≡ take at text ∷ lines_of (take (length text - (at + 1)) (drop (at + 1) text))
fed-line text at e =
    let found = found-at (λ b. b == 10) text at e in
    let rest = some-word (λ b. b == 10) (after_first (λ b. b == 10) text) in
    ap without_empty_end (slice_split_first (λ b. b == 10) text 0 found.1 ∙ ap (λ (parts : List (List ℕ)). before_first (λ b. b == 10) text ∷ parts) rest.2)
    ∙ ap (λ (parts : List (List ℕ)). before_first (λ b. b == 10) text ∷ without_empty_end parts) (sym rest.2)
    ∙ ap₂ (λ (first behind : List ℕ). first ∷ lines_of behind) (ap (λ n. take n text) found.0)
    (ap (λ n. drop (n + 1) text) found.0 ∙ sym (take_rest text (at + 1)))
