-- Parts of a record: what is read from the front of a text.
use Rattle.std.specs.Prelude.{ℕ, zero, suc, ◌-◌, ◌==◌, Bool, false, List, [], ◌∷◌, ◌++◌, length, take, drop, min, nat_lt, if◌then◌else◌, Result, Ok, Err}
use Rattle.std.specs.List.{prefix_len}
use Rattle.vx_base.specs.Results.{◌>>=◌}

-- a value, and the text behind the bytes that it was read from
pub record Found (A : Type 0) : Type 0 where
  pub value : A
  pub rest : List ℕ

-- what is read; or how many bytes are left where the text no longer begins what is looked for
abbrev pub Read : Type 0 → Type 0
Read A = Result (Found A) ℕ

abbrev pub found : {A : Type 0} → A → List ℕ → Read A
found value rest = Ok (record { value = value; rest = rest })

abbrev pub stop : {A : Type 0} → List ℕ → Read A
stop text = Err (length text)

-- nothing is told of what was read
abbrev pub done : Unit {0}
done = tt

-- a word that is written out
unfoldable pub word_in : List ℕ → List ℕ → Read (Unit {0})
word_in [] text = found done text
word_in (b ∷ word) [] = stop []
word_in (b ∷ word) (c ∷ text) = if b == c then word_in word text else stop (c ∷ text)

-- the value whose word stands here; else the word that is begun furthest tells where
abbrev pub pick : {A : Type 0} → A → Read (Unit {0}) → (ℕ → Read A) → Read A
pick value (Ok x) otherwise = found value x.rest
pick value (Err left) otherwise = otherwise left

unfoldable pub choice_from : {A : Type 0} → ℕ → (A → List ℕ) → List A → List ℕ → Read A
choice_from left word [] text = Err left
choice_from left word (value ∷ more) text =
    pick value (word_in (word value) text) (λ other. choice_from (min left other) word more text)

abbrev pub choice_in : {A : Type 0} → (A → List ℕ) → List A → List ℕ → Read A
choice_in word values text = choice_from (length text) word values text

-- the text begins with this byte
abbrev pub first_is : ℕ → List ℕ → Bool
first_is b [] = false
first_is b (c ∷ text) = b == c

-- a part with this byte behind it
abbrev pub next_is : {A : Type 0} → ℕ → A → List ℕ → Read A
next_is b value [] = stop []
next_is b value (c ∷ text) = if b == c then found value text else stop (c ∷ text)

abbrev pub followed_by : {A : Type 0} → ℕ → Read A → Read A
followed_by b (Ok x) = next_is b x.value x.rest
followed_by b (Err left) = Err left

-- a part with nothing behind it
abbrev pub ended_at : {A : Type 0} → A → List ℕ → Read A
ended_at value [] = found value []
ended_at value (c ∷ text) = stop (c ∷ text)

abbrev pub ended : {A : Type 0} → Read A → Read A
ended (Ok x) = ended_at x.value x.rest
ended (Err left) = Err left

-- where so many letters stand, from `least` to `most` of them are wanted
abbrev pub letters_at : ℕ → ℕ → ℕ → List ℕ → Read (List ℕ)
letters_at count least most text =
    if nat_lt count least then Err (length text - count)
    else if nat_lt most count then Err (length text - most)
    else found (take count text) (drop count text)

-- all the letters of a kind that stand here
unfoldable pub letters_in : (ℕ → Bool) → ℕ → ℕ → List ℕ → Read (List ℕ)
letters_in is_letter least most text = letters_at (prefix_len is_letter text) least most text

-- up to `most` items to the end of the text; what the next one may be depends on those before, and
-- on how many bytes they took
unfoldable pub each_in : {K X : Type 0} → (K → List ℕ → Read X) → (K → X → ℕ → K) → ℕ → K → List ℕ → Read (List X)
each_in item next most k [] = found [] []
each_in item next zero k (b ∷ text) = stop (b ∷ text)
each_in item next (suc most) k (b ∷ text) =
    item k (b ∷ text) >>= λ x.
    each_in item next most (next k x.value (length (b ∷ text) - length x.rest)) x.rest >>= λ xs.
    found (x.value ∷ xs.value) xs.rest

-- items that were read before, and those that are read
abbrev pub behind : {X : Type 0} → List X → Read (List X) → Read (List X)
behind before (Ok xs) = found (before ++ xs.value) xs.rest
behind before (Err left) = Err left

-- that items are read, without their values
abbrev pub passed : {X : Type 0} → Read X → Read (Unit {0})
passed (Ok x) = found done x.rest
passed (Err left) = Err left
