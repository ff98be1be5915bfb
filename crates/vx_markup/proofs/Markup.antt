-- Escaped texts have no markup.
use Rattle.std.proofs.Common.{◌≡◌, ℕ, Bool, true, false, ◌||◌, ◌==◌, cond, List, [], ◌∷◌, ◌++◌, refl}
use Rattle.std.specs.List.{list_any}
use Rattle.std.proofs.lemmas.Bool.{true≢false}
use Rattle.serde_json.specs.Written.{compact_text}
use Rattle.vx_markup.specs.Escaped.{escaped, escaped_byte, is_markup}
use Rattle.vx_markup.specs.Laws.{HasNoMarkup, LinesHaveNoMarkup, TextsJoinWithoutMarkup}

both : (a b : Bool) → a ≡ false → b ≡ false → (a || b) ≡ false
both false b first second = second
both true b first second = absurd (true≢false first)

front : (a b : Bool) → (a || b) ≡ false → a ≡ false
front false b is = refl
front true b is = absurd (true≢false is)

back : (a b : Bool) → (a || b) ≡ false → b ≡ false
back false b is = is
back true b is = absurd (true≢false is)

pub joined : TextsJoinWithoutMarkup
joined [] ys first second = second
joined (x ∷ xs) ys first second =
    both (is_markup x) (list_any is_markup (xs ++ ys)) (front (is_markup x) (list_any is_markup xs) first)
    (joined xs ys (back (is_markup x) (list_any is_markup xs) first) second)

-- a byte that is one of the three is written by others
byte : (x : ℕ) → HasNoMarkup (escaped_byte x)
byte x = by (x == 60) (x == 62) (x == 38) refl refl refl
  where
    last : (c : Bool) → x == 38 ≡ c → x == 60 ≡ false → x == 62 ≡ false → HasNoMarkup (cond c (92 ∷ 117 ∷ 48 ∷ 48 ∷ 50 ∷ 54 ∷ []) (x ∷ []))
    last true is a b = refl
    last false is a b = both (is_markup x) false (both (x == 60 || x == 62) (x == 38) (both (x == 60) (x == 62) a b) is) refl

    middle : (b c : Bool) → x == 62 ≡ b → x == 38 ≡ c → x == 60 ≡ false → HasNoMarkup (cond b (92 ∷ 117 ∷ 48 ∷ 48 ∷ 51 ∷ 101 ∷ []) (cond c (92 ∷ 117 ∷ 48 ∷ 48 ∷ 50 ∷ 54 ∷ []) (x ∷ [])))
    middle true c is further a = refl
    middle false c is further a = last c further a is

    by : (a b c : Bool) → x == 60 ≡ a → x == 62 ≡ b → x == 38 ≡ c → HasNoMarkup (cond a (92 ∷ 117 ∷ 48 ∷ 48 ∷ 51 ∷ 99 ∷ []) (cond b (92 ∷ 117 ∷ 48 ∷ 48 ∷ 51 ∷ 101 ∷ []) (cond c (92 ∷ 117 ∷ 48 ∷ 48 ∷ 50 ∷ 54 ∷ []) (x ∷ []))))
    by true b c is next further = refl
    by false b c is next further = middle b c next further is

text : (xs : List ℕ) → HasNoMarkup (escaped xs)
text [] = refl
text (x ∷ xs) = joined (escaped_byte x) (escaped xs) (byte x) (text xs)

pub line : LinesHaveNoMarkup
line value = joined (escaped (compact_text value)) (10 ∷ []) (text (compact_text value)) refl
