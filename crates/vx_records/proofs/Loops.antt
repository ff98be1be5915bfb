-- What is read step by step, as loops go.
use Rattle.std.proofs.Common.{◌≡◌, ℕ, zero, suc, ◌+◌, ◌-◌, ◌*◌, ◌≤◌, ◌<◌, Bool, true, false, cond, List, [], ◌∷◌, ◌++◌, length, map, get_or, take, drop, refl, ap, sym, subst, ◌∙◌, inl, inr, min, arith, add-one, drop-cons, length-append, append-nil, append_assoc}
use Rattle.std.specs.Prelude.{Result, Ok, Err, MatchResult, ◌&&◌, ◌||◌, ◌==◌, nat_le, nat_lt}
use Rattle.std.proofs.Math.ListN.{drop_of_length-le}
use Rattle.std.proofs.lemmas.Bool.{le-leb, lt-leb, lt-ltb, le-ltb, eqb-true}
use Rattle.vx_records.specs.declared.numbers.Numbers.{Numbers}
use Rattle.vx_records.specs.Numbers.{takes, begins, is_digit, reaches, digits_in, number_in}
use Rattle.vx_base.specs.Results.{◌>>=◌}
use Rattle.vx_records.specs.Parts.{Found, Read, found, stop, done, next_is, word_in, letters_at, letters_in, each_in, ended_at, behind, passed, choice_from, pick}
use Rattle.vx_records.specs.declared.parts.Stop.{Stop}
use Rattle.vx_records.specs.declared.parts.Stop.TheVariants.{Left, NoMemory}
use Rattle.vx_records.specs.Stops.{Stops}
use Rattle.vx_records.proofs.Grammar.{found_value, found_rest}
use Rattle.vx_records.proofs.Runs.{word_step, letters_part}
use Rattle.std.specs.List.{list_all, prefix_len}
use Rattle.std.proofs.lemmas.Bool.Decides.{nat_tests}
use Rattle.vx_base.proofs.Booleans.{and-left, and-right}
use Rattle.vx_events.specs.Fits.{is_batch_character}
use Rattle.vx_json.specs.Reading.{is_within}
use Rattle.vx_records.specs.Characters.{followers_in}
use Rattle.vx_records.specs.Letters.{is_state_letter}
use Rattle.vx_records.specs.Reading.{states_in, state_of}

word_next : (word : List ℕ) (i : ℕ) (rest : List ℕ) → i < length word → word_in (drop i word) rest ≡ (next_is (get_or word i 0) done rest >>= λ x. word_in (drop (i + 1) word) x.rest)
word_next word i rest h =
    ap (λ (w : List ℕ). word_in w rest) (drop-cons word i 0 h)
    ∙ word_step (get_or word i 0) (drop (suc i) word) rest
    ∙ ap (λ (k : ℕ). next_is (get_or word i 0) done rest >>= λ x. word_in (drop k word) x.rest) (sym (add-one i))

pub word_goes : (word : List ℕ) (i : ℕ) (rest more : List ℕ) → i < length word → next_is (get_or word i 0) done rest ≡ found done more → word_in (drop i word) rest ≡ word_in (drop (i + 1) word) more
word_goes word i rest more h e = word_next word i rest h ∙ ap (λ (r : Read (Unit {0})). r >>= λ x. word_in (drop (i + 1) word) x.rest) e

pub word_stops : (word : List ℕ) (i left : ℕ) (rest : List ℕ) → i < length word → next_is (get_or word i 0) done rest ≡ Err left → word_in (drop i word) rest ≡ Err left
word_stops word i left rest h e = word_next word i rest h ∙ ap (λ (r : Read (Unit {0})). r >>= λ x. word_in (drop (i + 1) word) x.rest) e

-- a refusal is handed on
pub stops_on : {A B : Type 0} (stop : Stop) (d : Read A) (defined : Read B) → Stops stop d → ((left : ℕ) → d ≡ Err left → defined ≡ Err left) → Stops stop defined
stops_on (Left left) d defined h k = k left h
stops_on NoMemory d defined h k = tt

pub word_end : (word : List ℕ) (i : ℕ) (rest : List ℕ) → length word ≤ i → word_in (drop i word) rest ≡ found done rest
unfolding word_in
word_end word i rest h = ap (λ (w : List ℕ). word_in w rest) (drop_of_length-le word h)

-- one try more of the range
pub reaches_over : (k m least most first last : ℕ) → k ≡ suc m → most < first → reaches k least most first last ≡ false
unfolding reaches
reaches_over k m least most first last e h =
    ap (λ (n : ℕ). reaches n least most first last) e
    ∙ ap (λ (t : Bool). t && (nat_le least last || reaches m least most (10 * first) (10 * last + 9))) (lt-leb first most h)

pub reaches_in : (k m least most first last : ℕ) → k ≡ suc m → first ≤ most → least ≤ last → reaches k least most first last ≡ true
unfolding reaches
reaches_in k m least most first last e h j =
    ap (λ (n : ℕ). reaches n least most first last) e
    ∙ ap (λ (t : Bool). t && (nat_le least last || reaches m least most (10 * first) (10 * last + 9))) (le-leb first most h)
    ∙ ap (λ (t : Bool). t || reaches m least most (10 * first) (10 * last + 9)) (le-leb least last j)

pub reaches_on : (k m least most first last more : ℕ) → k ≡ suc m → first ≤ most → last < least → more ≡ 10 * first → reaches k least most first last ≡ reaches m least most more (10 * last + 9)
unfolding reaches
reaches_on k m least most first last more e h j f =
    ap (λ (n : ℕ). reaches n least most first last) e
    ∙ ap (λ (t : Bool). t && (nat_le least last || reaches m least most (10 * first) (10 * last + 9))) (le-leb first most h)
    ∙ ap (λ (t : Bool). t || reaches m least most (10 * first) (10 * last + 9)) (lt-leb least last j)
    ∙ ap (λ (n : ℕ). reaches m least most n (10 * last + 9)) (sym f)

pub reaches_end : (k least most first last : ℕ) → k ≡ 0 → reaches k least most first last ≡ false
unfolding reaches
reaches_end k least most first last e = ap (λ (n : ℕ). reaches n least most first last) e

-- the number ends here
pub digits_end : (numbers : Numbers) (n : ℕ) (text : List ℕ) → text ≡ [] → digits_in numbers n text ≡ cond (takes numbers n) (found n text) (stop text)
unfolding digits_in
digits_end numbers n [] e = refl
digits_end numbers n (b ∷ text) e = absurd (cc (e))

pub digits_before : (numbers : Numbers) (n b : ℕ) (text rest : List ℕ) → text ≡ b ∷ rest → is_digit b ≡ false → digits_in numbers n text ≡ cond (takes numbers n) (found n text) (stop text)
unfolding digits_in
digits_before numbers n b text rest e h =
    ap (λ (t : List ℕ). digits_in numbers n t) e
    ∙ ap (λ (t : Bool). cond t (cond (nat_lt 0 n && begins numbers (10 * n + (b - 48))) (digits_in numbers (10 * n + (b - 48)) rest) (stop (b ∷ rest))) (cond (takes numbers n) (found n (b ∷ rest)) (stop (b ∷ rest)))) h
    ∙ ap (λ (t : List ℕ). cond (takes numbers n) (found n t) (stop t)) (sym e)

-- a digit more
digits_at : (numbers : Numbers) (n b : ℕ) (text rest : List ℕ) → text ≡ b ∷ rest → is_digit b ≡ true → digits_in numbers n text ≡ cond (nat_lt 0 n && begins numbers (10 * n + (b - 48))) (digits_in numbers (10 * n + (b - 48)) rest) (stop (b ∷ rest))
unfolding digits_in
digits_at numbers n b text rest e h =
    ap (λ (t : List ℕ). digits_in numbers n t) e
    ∙ ap (λ (t : Bool). cond t (cond (nat_lt 0 n && begins numbers (10 * n + (b - 48))) (digits_in numbers (10 * n + (b - 48)) rest) (stop (b ∷ rest))) (cond (takes numbers n) (found n (b ∷ rest)) (stop (b ∷ rest)))) h

pub digits_zero : (numbers : Numbers) (n b : ℕ) (text rest : List ℕ) → text ≡ b ∷ rest → is_digit b ≡ true → n ≡ 0 → digits_in numbers n text ≡ Err (length text)
digits_zero numbers n b text rest e h k =
    digits_at numbers n b text rest e h
    ∙ ap (λ (t : Bool). cond (t && begins numbers (10 * n + (b - 48))) (digits_in numbers (10 * n + (b - 48)) rest) (stop (b ∷ rest))) (le-ltb 0 n (omega arith))
    ∙ ap (λ (t : List ℕ). Err (length t)) (sym e)

pub digits_break : (numbers : Numbers) (n b : ℕ) (text rest : List ℕ) → text ≡ b ∷ rest → is_digit b ≡ true → begins numbers (10 * n + (b - 48)) ≡ false → digits_in numbers n text ≡ Err (length text)
digits_break numbers n b text rest e h k =
    digits_at numbers n b text rest e h
    ∙ ap (λ (t : Bool). cond (nat_lt 0 n && t) (digits_in numbers (10 * n + (b - 48)) rest) (stop (b ∷ rest))) k
    ∙ no_way (nat_lt 0 n)
    ∙ ap (λ (t : List ℕ). Err (length t)) (sym e) where
      no_way : (t : Bool) → cond (t && false) (digits_in numbers (10 * n + (b - 48)) rest) (stop (b ∷ rest)) ≡ stop (b ∷ rest)
      no_way true = refl
      no_way false = refl

pub digits_go : (numbers : Numbers) (n b : ℕ) (text rest : List ℕ) → text ≡ b ∷ rest → is_digit b ≡ true → 0 < n → begins numbers (10 * n + (b - 48)) ≡ true → digits_in numbers n text ≡ digits_in numbers (10 * n + (b - 48)) rest
digits_go numbers n b text rest e h j k =
    digits_at numbers n b text rest e h
    ∙ ap (λ (t : Bool). cond (t && begins numbers (10 * n + (b - 48))) (digits_in numbers (10 * n + (b - 48)) rest) (stop (b ∷ rest))) (lt-ltb 0 n j)
    ∙ ap (λ (t : Bool). cond t (digits_in numbers (10 * n + (b - 48)) rest) (stop (b ∷ rest))) k

-- the first digit
pub number_none : (numbers : Numbers) (text : List ℕ) → text ≡ [] → number_in numbers text ≡ Err 0
unfolding number_in
number_none numbers [] e = refl
number_none numbers (b ∷ text) e = absurd (cc (e))

pub number_goes : (numbers : Numbers) (b : ℕ) (text rest : List ℕ) → text ≡ b ∷ rest → is_digit b ≡ true → begins numbers (b - 48) ≡ true → number_in numbers text ≡ digits_in numbers (b - 48) rest
unfolding number_in
number_goes numbers b text rest e h k =
    ap (λ (t : List ℕ). number_in numbers t) e
    ∙ ap (λ (t : Bool). cond (t && begins numbers (b - 48)) (digits_in numbers (b - 48) rest) (stop (b ∷ rest))) h
    ∙ ap (λ (t : Bool). cond t (digits_in numbers (b - 48) rest) (stop (b ∷ rest))) k

pub number_no_digit : (numbers : Numbers) (b : ℕ) (text rest : List ℕ) → text ≡ b ∷ rest → is_digit b ≡ false → number_in numbers text ≡ Err (length text)
unfolding number_in
number_no_digit numbers b text rest e h =
    ap (λ (t : List ℕ). number_in numbers t) e
    ∙ ap (λ (t : Bool). cond (t && begins numbers (b - 48)) (digits_in numbers (b - 48) rest) (stop (b ∷ rest))) h
    ∙ ap (λ (t : List ℕ). Err (length t)) (sym e)

pub number_no_start : (numbers : Numbers) (b : ℕ) (text rest : List ℕ) → text ≡ b ∷ rest → is_digit b ≡ true → begins numbers (b - 48) ≡ false → number_in numbers text ≡ Err (length text)
unfolding number_in
number_no_start numbers b text rest e h k =
    ap (λ (t : List ℕ). number_in numbers t) e
    ∙ ap (λ (t : Bool). cond (t && begins numbers (b - 48)) (digits_in numbers (b - 48) rest) (stop (b ∷ rest))) h
    ∙ ap (λ (t : Bool). cond t (digits_in numbers (b - 48) rest) (stop (b ∷ rest))) k
    ∙ ap (λ (t : List ℕ). Err (length t)) (sym e)

-- letters, by their count
pub letters_few : (p : ℕ → Bool) (least most n : ℕ) (text : List ℕ) → n ≡ prefix_len p text → n < least → letters_in p least most text ≡ Err (length text - n)
unfolding letters_in
letters_few p least most n text e h =
    ap (λ (k : ℕ). letters_at k least most text) (sym e)
    ∙ ap (λ (t : Bool). cond t (Err (length text - n)) (cond (nat_lt most n) (Err (length text - most)) (found (take n text) (drop n text)))) (lt-ltb n least h)

pub letters_many : (p : ℕ → Bool) (least most n : ℕ) (text : List ℕ) → n ≡ prefix_len p text → least ≤ n → most < n → letters_in p least most text ≡ Err (length text - most)
unfolding letters_in
letters_many p least most n text e h j =
    ap (λ (k : ℕ). letters_at k least most text) (sym e)
    ∙ ap (λ (t : Bool). cond t (Err (length text - n)) (cond (nat_lt most n) (Err (length text - most)) (found (take n text) (drop n text)))) (le-ltb n least h)
    ∙ ap (λ (t : Bool). cond t (Err (length text - most)) (found (take n text) (drop n text))) (lt-ltb most n j)

pub letters_some : (p : ℕ → Bool) (least most n : ℕ) (text front back : List ℕ) → n ≡ prefix_len p text → least ≤ n → n ≤ most → front ≡ take n text → back ≡ drop n text → letters_in p least most text ≡ found front back
unfolding letters_in
letters_some p least most n text front back e h j f b =
    ap (λ (k : ℕ). letters_at k least most text) (sym e)
    ∙ ap (λ (t : Bool). cond t (Err (length text - n)) (cond (nat_lt most n) (Err (length text - most)) (found (take n text) (drop n text)))) (le-ltb n least h)
    ∙ ap (λ (t : Bool). cond t (Err (length text - most)) (found (take n text) (drop n text))) (le-ltb most n j)
    ∙ ap (λ (x : List ℕ). found x (drop n text)) (sym f)
    ∙ ap (λ (x : List ℕ). found front x) (sym b)

pub letters_all : (p : ℕ → Bool) (least most : ℕ) (text front back : List ℕ) → letters_in p least most text ≡ found front back → list_all p front ≡ true
letters_all p least most text front back e = ((letters_part p least most).only text front back e).is.is.letters

-- the characters of a batch are ASCII
batch_small : (b : ℕ) → is_batch_character b ≡ true → b < 128
batch_small b h = grind (arith, nat_tests)

pub batch_ascii : (bs : List ℕ) → list_all is_batch_character bs ≡ true → (i : ℕ) → get_or bs i 0 < 128
batch_ascii [] h i = omega arith
batch_ascii (b ∷ bs) h zero = batch_small b (and-left (is_batch_character b) (list_all is_batch_character bs) h)
batch_ascii (b ∷ bs) h (suc i) = batch_ascii bs (and-right (is_batch_character b) (list_all is_batch_character bs) h) i

-- items, one after another
module _ {K X : Type 0} (item : K → List ℕ → Read X) (next : K → X → ℕ → K) where
  each_at : (m : ℕ) (k : K) (b : ℕ) (text : List ℕ) → each_in item next (suc m) k (b ∷ text) ≡ (item k (b ∷ text) >>= λ x. each_in item next m (next k x.value (length (b ∷ text) - length x.rest)) x.rest >>= λ xs. found (x.value ∷ xs.value) xs.rest)
  unfolding each_in
  each_at m k b text = refl

  behind_push : (before : List X) (x : X) (r : Read (List X)) → behind before (r >>= λ xs. found (x ∷ xs.value) xs.rest) ≡ behind (before ++ x ∷ []) r
  behind_push before x (Ok xs) = ap (λ (ys : List X). found ys xs.rest) (sym (append_assoc before (x ∷ []) xs.value))
  behind_push before x (Err left) = refl

  pub each_goes : (before : List X) (m n : ℕ) (k : K) (text rest : List ℕ) (x : X) → n ≡ suc m → 0 < length text → item k text ≡ found x rest → behind before (each_in item next n k text) ≡ behind (before ++ x ∷ []) (each_in item next m (next k x (length text - length rest)) rest)
  each_goes before m n k [] rest x e some h = absurd (omega (arith, some))
  each_goes before m n k (b ∷ text) rest x e some h =
      ap (λ (i : ℕ). behind before (each_in item next i k (b ∷ text))) e
      ∙ ap (behind before) (each_at m k b text)
      ∙ ap (λ (r : Read X). behind before (r >>= λ y. each_in item next m (next k y.value (length (b ∷ text) - length y.rest)) y.rest >>= λ xs. found (y.value ∷ xs.value) xs.rest)) h
      ∙ behind_push before x (each_in item next m (next k x (length (b ∷ text) - length rest)) rest)

  pub each_stops : (before : List X) (m n : ℕ) (k : K) (text : List ℕ) (left : ℕ) → n ≡ suc m → 0 < length text → item k text ≡ Err left → behind before (each_in item next n k text) ≡ Err left
  each_stops before m n k [] left e some h = absurd (omega (arith, some))
  each_stops before m n k (b ∷ text) left e some h =
      ap (λ (i : ℕ). behind before (each_in item next i k (b ∷ text))) e
      ∙ ap (behind before) (each_at m k b text)
      ∙ ap (λ (r : Read X). behind before (r >>= λ y. each_in item next m (next k y.value (length (b ∷ text) - length y.rest)) y.rest >>= λ xs. found (y.value ∷ xs.value) xs.rest)) h

  each_empty : (m : ℕ) (k : K) → each_in item next m k [] ≡ found [] []
  unfolding each_in
  each_empty zero k = refl
  each_empty (suc m) k = refl

  pub each_none : (before : List X) (m : ℕ) (k : K) (text : List ℕ) → text ≡ [] → behind before (each_in item next m k text) ≡ found before []
  each_none before m k text e =
      ap (λ (t : List ℕ). behind before (each_in item next m k t)) e ∙ ap (behind before) (each_empty m k) ∙ ap (λ (ys : List X). found ys []) (append-nil before)

  pub each_left : (before : List X) (m : ℕ) (k : K) (text : List ℕ) (left : ℕ) → m ≡ 0 → ended_at done text ≡ Err left → behind before (each_in item next m k text) ≡ Err left
  unfolding each_in
  each_left before m k [] left e h = absurd (cc (h))
  each_left before m k (b ∷ text) left e h = ap (λ (i : ℕ). behind before (each_in item next i k (b ∷ text))) e ∙ same (cc (h)) where
    same : length (b ∷ text) ≡ left → behind before (stop (b ∷ text)) ≡ Err left
    same k = ap (λ (i : ℕ). Err i) k

  passed_cons : (x : X) (r : Read (List X)) → passed (r >>= λ xs. found (x ∷ xs.value) xs.rest) ≡ passed r
  passed_cons x (Ok xs) = refl
  passed_cons x (Err left) = refl

  pub pass_goes : (m n : ℕ) (k : K) (text rest : List ℕ) (x : X) → n ≡ suc m → 0 < length text → item k text ≡ found x rest → passed (each_in item next n k text) ≡ passed (each_in item next m (next k x (length text - length rest)) rest)
  pass_goes m n k [] rest x e some h = absurd (omega (arith, some))
  pass_goes m n k (b ∷ text) rest x e some h =
      ap (λ (i : ℕ). passed (each_in item next i k (b ∷ text))) e
      ∙ ap passed (each_at m k b text)
      ∙ ap (λ (r : Read X). passed (r >>= λ y. each_in item next m (next k y.value (length (b ∷ text) - length y.rest)) y.rest >>= λ xs. found (y.value ∷ xs.value) xs.rest)) h
      ∙ passed_cons x (each_in item next m (next k x (length (b ∷ text) - length rest)) rest)

  pub pass_stops : (m n : ℕ) (k : K) (text : List ℕ) (left : ℕ) → n ≡ suc m → 0 < length text → item k text ≡ Err left → passed (each_in item next n k text) ≡ Err left
  pass_stops m n k [] left e some h = absurd (omega (arith, some))
  pass_stops m n k (b ∷ text) left e some h =
      ap (λ (i : ℕ). passed (each_in item next i k (b ∷ text))) e
      ∙ ap passed (each_at m k b text)
      ∙ ap (λ (r : Read X). passed (r >>= λ y. each_in item next m (next k y.value (length (b ∷ text) - length y.rest)) y.rest >>= λ xs. found (y.value ∷ xs.value) xs.rest)) h

  pub pass_none : (m : ℕ) (k : K) (text : List ℕ) → text ≡ [] → passed (each_in item next m k text) ≡ found done []
  pass_none m k text e = ap (λ (t : List ℕ). passed (each_in item next m k t)) e ∙ ap passed (each_empty m k)

  pub pass_left : (m : ℕ) (k : K) (text : List ℕ) (left : ℕ) → m ≡ 0 → ended_at done text ≡ Err left → passed (each_in item next m k text) ≡ Err left
  unfolding each_in
  pass_left m k [] left e h = absurd (cc (h))
  pass_left m k (b ∷ text) left e h = ap (λ (i : ℕ). passed (each_in item next i k (b ∷ text))) e ∙ same (cc (h)) where
    same : length (b ∷ text) ≡ left → passed {X = List X} (stop (b ∷ text)) ≡ Err left
    same k = ap (λ (i : ℕ). Err i) k

-- a choice, word by word
module _ {A : Type 0} (word : A → List ℕ) where
  choice_next : (left : ℕ) (values : List A) (i : ℕ) (a : A) (text : List ℕ) → i < length values → a ≡ get_or values i a → choice_from left word (drop i values) text ≡ pick a (word_in (word a) text) (λ other. choice_from (min left other) word (drop (i + 1) values) text)
  unfolding choice_from
  choice_next left values i a text h e =
      ap (λ (l : List A). choice_from left word l text) (drop-cons values i a h)
      ∙ ap (λ (v : A). pick v (word_in (word v) text) (λ other. choice_from (min left other) word (drop (suc i) values) text)) (sym e)
      ∙ ap (λ (k : ℕ). pick a (word_in (word a) text) (λ other. choice_from (min left other) word (drop k values) text)) (sym (add-one i))

  pub choice_finds : (left : ℕ) (values : List A) (i : ℕ) (a : A) (text rest : List ℕ) → i < length values → a ≡ get_or values i a → word_in (word a) text ≡ found done rest → choice_from left word (drop i values) text ≡ found a rest
  choice_finds left values i a text rest h e f =
      choice_next left values i a text h e ∙ ap (λ (r : Read (Unit {0})). pick a r (λ other. choice_from (min left other) word (drop (i + 1) values) text)) f

  pub choice_goes : (left : ℕ) (values : List A) (i : ℕ) (a : A) (text : List ℕ) (other : ℕ) → i < length values → a ≡ get_or values i a → word_in (word a) text ≡ Err other → choice_from left word (drop i values) text ≡ choice_from (min left other) word (drop (i + 1) values) text
  choice_goes left values i a text other h e f =
      choice_next left values i a text h e ∙ ap (λ (r : Read (Unit {0})). pick a r (λ other. choice_from (min left other) word (drop (i + 1) values) text)) f

  pub choice_ends : (left : ℕ) (values : List A) (i : ℕ) (text : List ℕ) → length values ≤ i → choice_from left word (drop i values) text ≡ Err left
  unfolding choice_from
  choice_ends left values i text h = ap (λ (l : List A). choice_from left word l text) (drop_of_length-le values h)

pub empty : (text : List ℕ) → (length text == 0) ≡ true → text ≡ []
empty [] h = refl
empty (b ∷ text) h = absurd (omega (arith, eqb-true (length (b ∷ text)) 0 h))

pub nonempty : (text : List ℕ) → (length text == 0) ≡ false → 0 < length text
nonempty [] h = absurd cc
nonempty (b ∷ text) h = omega arith

-- nothing is behind the items, or something is
pub end_of : {A : Type 0} (r : Result (Unit {0}) Stop) (rest : List ℕ) (d : Read A) (v : A) → MatchResult r (λ x. rest ≡ []) (λ stop. Stops stop (ended_at done rest)) → (rest ≡ [] → d ≡ found v []) → ((left : ℕ) → ended_at done rest ≡ Err left → d ≡ Err left) → MatchResult r (λ x. d ≡ found v []) (λ stop. Stops stop d)
end_of (Ok x) rest d v h none some = none h
end_of (Err stop) rest d v h none some = stops_on stop (ended_at done rest) d h some

-- the further bytes of a character
pub followers_none : (k m low high : ℕ) (text : List ℕ) → k ≡ suc m → text ≡ [] → followers_in k low high text ≡ Err 0
unfolding followers_in
followers_none k m low high text e h = ap (λ (n : ℕ). followers_in n low high text) e ∙ ap (λ (t : List ℕ). followers_in (suc m) low high t) h

pub followers_bad : (k m low high b : ℕ) (text rest : List ℕ) → k ≡ suc m → text ≡ b ∷ rest → is_within low high b ≡ false → followers_in k low high text ≡ Err (length text)
unfolding followers_in
followers_bad k m low high b text rest e h j =
    ap (λ (n : ℕ). followers_in n low high text) e
    ∙ ap (λ (t : List ℕ). followers_in (suc m) low high t) h
    ∙ ap (λ (t : Bool). cond t (followers_in m 128 191 rest) (stop (b ∷ rest))) j
    ∙ ap (λ (t : List ℕ). Err (length t)) (sym h)

pub followers_good : (k m low high b : ℕ) (text rest : List ℕ) → k ≡ suc m → text ≡ b ∷ rest → is_within low high b ≡ true → followers_in k low high text ≡ followers_in m 128 191 rest
unfolding followers_in
followers_good k m low high b text rest e h j =
    ap (λ (n : ℕ). followers_in n low high text) e
    ∙ ap (λ (t : List ℕ). followers_in (suc m) low high t) h
    ∙ ap (λ (t : Bool). cond t (followers_in m 128 191 rest) (stop (b ∷ rest))) j

pub followers_end : (k low high : ℕ) (text : List ℕ) → k ≡ 0 → followers_in k low high text ≡ found done text
unfolding followers_in
followers_end k low high text e = ap (λ (n : ℕ). followers_in n low high text) e

pub states_stops : (n room left : ℕ) (text : List ℕ) → n ≡ min room 150 → letters_in is_state_letter 1 n text ≡ Err left → states_in room text ≡ Err left
unfolding states_in
states_stops n room left text e h =
    ap (λ (r : Read (List ℕ)). r >>= λ letters. found (map state_of letters.value) letters.rest)
    (ap (λ (k : ℕ). letters_in is_state_letter 1 k text) (sym e) ∙ h)
