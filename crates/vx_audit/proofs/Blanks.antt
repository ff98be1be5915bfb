-- Words with one blank between.
use Rattle.std.proofs.Common.{◌≡◌, ℕ, suc, ◌+◌, ◌==◌, Bool, true, false, cond, List, [], ◌∷◌, length, refl, ap, sym, ◌∙◌, arith}
use Rattle.std.specs.Prelude.{bytes_eq, codes, if◌then◌else◌}
use Rattle.std.specs.List.{slice_split, onto_first, join_with_byte, position_or_len}
use Rattle.std.proofs.lemmas.Bool.Decides.{nat_tests}
use Rattle.std.proofs.lemmas.List.Splits.{join_with_byte-slice_split}
use Rattle.std.proofs.lemmas.Slice.Eq.{bytes_eq-Decides}
use Rattle.vx_audit.specs.Hand.{words_of, is_dash}

-- there is a word
pub some-word : (p : ℕ → Bool) (text : List ℕ) → (word : List ℕ) × (words : List (List ℕ)) × (slice_split p text ≡ word ∷ words)
some-word p [] = ([], [], refl)
some-word p (b ∷ text) = by (p b) (slice_split p text)
  where
    by : (c : Bool) (parts : List (List ℕ)) → (word : List ℕ) × (words : List (List ℕ)) × (cond c ([] ∷ parts) (onto_first b parts) ≡ word ∷ words)
    by true parts = ([], parts, refl)
    by false [] = (b ∷ [], [], refl)
    by false (part ∷ parts) = (b ∷ part, parts, refl)

no-zero : (n : ℕ) → (suc n == 0) ≡ false
no-zero n = grind (arith, nat_tests)

-- the words of a line are read where it has ended
pub read-where-ended : (ended : Bool) (text : List ℕ) → ended ≡ (length (if ended then [] else words_of text) == 0)
read-where-ended true text = refl
read-where-ended false text =
    let some = some-word (λ b. b == 32) text in
    sym (ap (λ (words : List (List ℕ)). length words == 0) some.2 ∙ no-zero (length some.1))

-- one word alone is the line
pub dash-alone : (text : List ℕ) → bytes_eq text (codes "-") ≡ is_dash (words_of text)
dash-alone text = let some = some-word (λ b. b == 32) text in by some.0 some.1 some.2
  where
    differs : (word next : List ℕ) (more : List (List ℕ)) → words_of text ≡ word ∷ next ∷ more → (b : Bool) → bytes_eq text (codes "-") ≡ b
        → bytes_eq text (codes "-") ≡ false
    differs word next more e true f =
        let alone : words_of text ≡ codes "-" ∷ [] = ap words_of ((bytes_eq-Decides text (codes "-")).0 f) in
        absurd (let lengths = ap length (sym e ∙ alone) in omega (arith, lengths))
    differs word next more e false f = f

    by : (word : List ℕ) (words : List (List ℕ)) → words_of text ≡ word ∷ words → bytes_eq text (codes "-") ≡ is_dash (words_of text)
    by word [] e =
        let same : text ≡ word = sym (join_with_byte-slice_split 32 text) ∙ ap (join_with_byte 32) e in
        ap (λ (bytes : List ℕ). bytes_eq bytes (codes "-")) same ∙ ap is_dash (sym e)
    by word (next ∷ more) e = differs word next more e (bytes_eq text (codes "-")) refl ∙ ap is_dash (sym e)

-- without a blank there is one word
pub one-word : (p : ℕ → Bool) (text : List ℕ) → position_or_len p text ≡ length text → slice_split p text ≡ text ∷ []
one-word p [] e = refl
one-word p (b ∷ text) e = by (p b) refl (one-word p text)
  where
    by : (c : Bool) → p b ≡ c → (position_or_len p text ≡ length text → slice_split p text ≡ text ∷ []) → slice_split p (b ∷ text) ≡ (b ∷ text) ∷ []
    by true is rest = absurd (let none : position_or_len p (b ∷ text) ≡ 0 = rw is refl in omega (arith, none, e))
    by false is rest =
        let more : position_or_len p (b ∷ text) ≡ 1 + position_or_len p text = rw is refl in
        rw is (ap (onto_first b) (rest (omega (arith, more, e))))
