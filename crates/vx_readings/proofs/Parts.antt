-- A text in parts, by the first place of a byte.
use Rattle.std.proofs.Common.{◌≡◌, ◌<◌, ◌≤◌, ◌+◌, ℕ, zero, suc, Bool, true, false, List, [], ◌∷◌, length, take, drop, get_or, cond, arith, refl, sym, ap, ◌∙◌, inl, inr}
use Rattle.std.proofs.Math.Nat.{eq-or-lt_of_le}
use Rattle.std.specs.Prelude.{◌==◌, MatchBool}
use Rattle.vx_base.proofs.Numbers.{equal-yes, equal-from_yes}
use Rattle.vx_base.proofs.Booleans.{is-false}
use Rattle.vx_readings.specs.Parts.{begun_with, parts_of, lines_of}

-- the byte stands at none of the first places of a text
abbrev pub StandsNowhere : ℕ → List ℕ → ℕ → Type 0
StandsNowhere at text end = (k : ℕ) → k < end → (get_or text k 0 == at) ≡ true → ⊥

-- it stands nowhere before the next place either, where it doesn't stand at this one
pub none_after : (at : ℕ) (text : List ℕ) (end : ℕ) → StandsNowhere at text end → (get_or text end 0 ≡ at → ⊥) → StandsNowhere at text (end + 1)
none_after at text end none here k below is =
    let k_or_less : k ≤ end = omega (arith, below) in
    elim (eq-or-lt_of_le k_or_less) [
      | inl same ↦ here (equal-from_yes (get_or text end 0) at (ap (λ (n : ℕ). get_or text n 0 == at) (sym same) ∙ is))
      | inr less ↦ none k less is
    ]

-- a text without the byte is one part
pub parts_of-none : (at : ℕ) (text : List ℕ) → StandsNowhere at text (length text) → parts_of at text ≡ text ∷ []
unfolding parts_of
parts_of-none at [] none = refl
parts_of-none at (byte ∷ text) none =
    let here : (byte == at) ≡ false = is-false (byte == at) (none 0 (omega arith)) in
    let rest : parts_of at text ≡ text ∷ [] = parts_of-none at text (λ k small is. none (suc k) (omega arith) is) in
    rw here (ap (begun_with byte) rest)

-- the first part ends before the byte's first place
pub parts_of-first : (at place : ℕ) (text : List ℕ) → place < length text → StandsNowhere at text place → (get_or text place 0 == at) ≡ true
    → parts_of at text ≡ take place text ∷ parts_of at (drop (suc place) text)
unfolding parts_of
parts_of-first at place [] small none here = absurd (omega arith)
parts_of-first at zero (byte ∷ text) small none here = rw here refl
parts_of-first at (suc place) (byte ∷ text) small none here =
    let first : (byte == at) ≡ false = is-false (byte == at) (none 0 (omega arith)) in
    let rest : parts_of at text ≡ take place text ∷ parts_of at (drop (suc place) text) =
    parts_of-first at place text (omega arith) (λ k less is. none (suc k) (omega arith) is) here in
    rw first (ap (begun_with byte) rest)

-- the same of lines
pub lines_of-none : (text : List ℕ) → 0 < length text → StandsNowhere 10 text (length text) → lines_of text ≡ text ∷ []
unfolding lines_of
lines_of-none [] some none = absurd (omega arith)
lines_of-none (byte ∷ []) some none =
    let here : (byte == 10) ≡ false = is-false (byte == 10) (none 0 (omega arith)) in
    rw here refl
lines_of-none (byte ∷ next ∷ text) some none =
    let here : (byte == 10) ≡ false = is-false (byte == 10) (none 0 (omega arith)) in
    let rest : lines_of (next ∷ text) ≡ (next ∷ text) ∷ [] = lines_of-none (next ∷ text) (omega arith) (λ k small is. none (suc k) (omega arith) is) in
    rw here (ap (begun_with byte) rest)

pub lines_of-first : (place : ℕ) (text : List ℕ) → place < length text → StandsNowhere 10 text place → (get_or text place 0 == 10) ≡ true
    → lines_of text ≡ take place text ∷ lines_of (drop (suc place) text)
unfolding lines_of
lines_of-first place [] small none here = absurd (omega arith)
lines_of-first zero (byte ∷ text) small none here = rw here refl
lines_of-first (suc place) (byte ∷ text) small none here =
    let first : (byte == 10) ≡ false = is-false (byte == 10) (none 0 (omega arith)) in
    let rest : lines_of text ≡ take place text ∷ lines_of (drop (suc place) text) =
    lines_of-first place text (omega arith) (λ k less is. none (suc k) (omega arith) is) here in
    rw first (ap (begun_with byte) rest)

begun_never : (ends : Bool) (byte : ℕ) (lines : List (List ℕ)) → cond ends ([] ∷ lines) (begun_with byte lines) ≡ [] → ⊥
begun_never true byte lines is = cc
begun_never false byte [] is = cc
begun_never false byte (line ∷ lines) is = cc

-- a text without lines is empty
pub lines_of-some : (text : List ℕ) → 0 < length text → lines_of text ≡ [] → ⊥
unfolding lines_of
lines_of-some [] some is = omega arith
lines_of-some (byte ∷ text) some is = begun_never (byte == 10) byte (lines_of text) is

pub lines_of-empty : (text : List ℕ) → length text ≡ 0 → lines_of text ≡ []
unfolding lines_of
lines_of-empty [] none = refl
lines_of-empty (byte ∷ text) none = absurd (omega arith)

-- whether a text has lines
pub lines_of-tested : (b : Bool) (text : List ℕ) → b ≡ (length text == 0) → MatchBool b (lines_of text ≡ []) (lines_of text ≡ [] → ⊥)
lines_of-tested true text is = lines_of-empty text (equal-from_yes (length text) 0 (sym is))
lines_of-tested false text is =
    lines_of-some text (let some : length text ≡ 0 → ⊥ = λ none. let yes_is : (length text == 0) ≡ true = equal-yes (length text) 0 none in cc in omega (arith, some))
