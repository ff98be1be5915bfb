-- Texts with numbers: what is kept of them behind one more pair.
use Rattle.std.proofs.Common.{◌≡◌, ℕ, zero, suc, ◌+◌, Bool, true, false, cond, not, ◌||◌, List, [], ◌∷◌, ◌++◌, map, refl, sym, ap, ◌∙◌, append-nil, arith}
use Rattle.std.specs.Prelude.{Some, bytes_eq, filter, option_map, slice_get, sum_by}
use Rattle.std.specs.List.{list_any}
use Rattle.std.specs.Map.{lookup}
use Rattle.std.specs.Option.{unwrap_or}
use Rattle.std.proofs.lemmas.List.Elements.{filter-append}
use Rattle.std.proofs.lemmas.List.Sums.{sum_by-append}
use Rattle.std.proofs.lemmas.Slice.Eq.{bytes_eq-Decides}
use Rattle.indexmap.specs.IndexMap.{insert_entry}
use Rattle.vx_base.proofs.Booleans.{is-false, not-both}
use Rattle.vx_base.proofs.Lists.{map-push}
use Rattle.vx_results.specs.Firsts.{Numbered, firsts, sum_for}
use Rattle.vx_results.specs.Sums.{AreSums, kept_texts, raised, sum_at}

-- ---- entries under keys whose bytes are the texts

module _ {K : Type 0} (bytes : K → List ℕ) where
  abbrev pub shown : K × ℕ → Numbered
  shown entry = (bytes entry.0, entry.1)

  pub looked-up : (text : List ℕ) (entries : List (K × ℕ))
      → unwrap_or (lookup (λ key. bytes_eq text (bytes key)) entries) 0 ≡ sum_at (map shown entries) text
  looked-up text [] = refl
  looked-up text (entry ∷ entries) = by (bytes_eq text (bytes entry.0)) (looked-up text entries)
    where
      by : (b : Bool) → unwrap_or (lookup (λ key. bytes_eq text (bytes key)) entries) 0 ≡ sum_at (map shown entries) text
          → unwrap_or (cond b (Some entry.1) (lookup (λ key. bytes_eq text (bytes key)) entries)) 0 ≡ cond b entry.1 (sum_at (map shown entries) text)
      by true rest = refl
      by false rest = rest

  pub inserted : (key : K) (number : ℕ) (entries : List (K × ℕ))
      → map shown (insert_entry (λ one other. bytes_eq (bytes one) (bytes other)) entries key number)
      ≡ insert_entry bytes_eq (map shown entries) (bytes key) number
  inserted key number [] = refl
  inserted key number (entry ∷ entries) = by (bytes_eq (bytes key) (bytes entry.0)) (inserted key number entries)
    where
      rest : List (K × ℕ)
      rest = insert_entry (λ one other. bytes_eq (bytes one) (bytes other)) entries key number

      by : (b : Bool) → map shown rest ≡ insert_entry bytes_eq (map shown entries) (bytes key) number
          → map shown (cond b ((entry.0, number) ∷ entries) (entry ∷ rest))
          ≡ cond b ((bytes entry.0, number) ∷ map shown entries) (shown entry ∷ insert_entry bytes_eq (map shown entries) (bytes key) number)
      by true same = refl
      by false same = ap (λ (more : List Numbered). shown entry ∷ more) same

at-mapped : {X Y : Type 0} (f : X → Y) (xs : List X) (i : ℕ) → slice_get (map f xs) i ≡ option_map f (slice_get xs i)
at-mapped f [] i = refl
at-mapped f (x ∷ xs) zero = refl
at-mapped f (x ∷ xs) (suc i) = at-mapped f xs i

pub text-there : {K : Type 0} (bytes : K → List ℕ) (entries : List (K × ℕ)) (place : ℕ) (entry : K × ℕ) → slice_get entries place ≡ Some entry
    → slice_get (kept_texts (map (shown bytes) entries)) place ≡ Some (bytes entry.0)
text-there {K = K} bytes entries place entry there =
    at-mapped (λ (pair : Numbered). pair.0) (map (shown bytes) entries) place
    ∙ ap (option_map (λ (pair : Numbered). pair.0)) (at-mapped (shown bytes) entries place ∙ ap (option_map (shown bytes)) there)

-- ---- one more text

-- a text behind others, if it isn't among them
abbrev placed : List ℕ → List (List ℕ) → List (List ℕ)
placed text texts = cond (list_any (bytes_eq text) texts) texts (texts ++ text ∷ [])

-- a text isn't one of those that remain without it, and each other one is
abbrev without : List ℕ → List (List ℕ) → List (List ℕ)
without one texts = filter (λ other. not (bytes_eq one other)) texts

equal-self : (text : List ℕ) → bytes_eq text text ≡ true
equal-self text = (bytes_eq-Decides text text).1 refl

any-without : (one text : List ℕ) → bytes_eq text one ≡ false → (texts : List (List ℕ))
    → list_any (bytes_eq text) (without one texts) ≡ list_any (bytes_eq text) texts
any-without one text apart [] = refl
any-without one text apart (other ∷ texts) = by (bytes_eq one other) refl (any-without one text apart texts)
  where
    by : (b : Bool) → bytes_eq one other ≡ b → list_any (bytes_eq text) (without one texts) ≡ list_any (bytes_eq text) texts
        → list_any (bytes_eq text) (cond (not b) (other ∷ without one texts) (without one texts)) ≡ bytes_eq text other || list_any (bytes_eq text) texts
    by true e rest =
        let same : one ≡ other = (bytes_eq-Decides one other).0 e in
        rest ∙ ap (λ b. b || list_any (bytes_eq text) texts) (sym apart ∙ ap (bytes_eq text) same)
    by false e rest = ap (λ b. bytes_eq text other || b) rest

-- without one of them, and then one more in front
placed-behind : (one text : List ℕ) (texts : List (List ℕ)) → one ∷ without one (placed text texts) ≡ placed text (one ∷ without one texts)
placed-behind one text texts = by (bytes_eq text one) refl (list_any (bytes_eq text) texts) refl
  where
    alone : without one (texts ++ text ∷ []) ≡ without one texts ++ without one (text ∷ [])
    alone = filter-append (λ other. not (bytes_eq one other)) texts (text ∷ [])

    by : (b : Bool) → bytes_eq text one ≡ b → (c : Bool) → list_any (bytes_eq text) texts ≡ c
        → one ∷ without one (cond c texts (texts ++ text ∷ []))
        ≡ cond (b || list_any (bytes_eq text) (without one texts)) (one ∷ without one texts) (one ∷ without one texts ++ text ∷ [])
    by true e true among = refl
    by true e false among =
        let turned : bytes_eq one text ≡ true = ap (bytes_eq one) ((bytes_eq-Decides text one).0 e) ∙ equal-self one in
        let gone : without one (text ∷ []) ≡ [] = ap (λ b. cond (not b) (text ∷ []) []) turned in
        ap (λ (rest : List (List ℕ)). one ∷ rest) (alone ∙ ap (λ (rest : List (List ℕ)). without one texts ++ rest) gone ∙ append-nil (without one texts))
    by false e true among =
        ap (λ b. cond b (one ∷ without one texts) (one ∷ without one texts ++ text ∷ [])) (sym (any-without one text e texts ∙ among))
    by false e false among =
        let other : bytes_eq one text ≡ false = is-false (bytes_eq one text)
        (λ h. not-both (bytes_eq text one) (ap (bytes_eq text) ((bytes_eq-Decides one text).0 h) ∙ equal-self text) e) in
        let stays : without one (text ∷ []) ≡ text ∷ [] = ap (λ b. cond (not b) (text ∷ []) []) other in
        ap (λ (rest : List (List ℕ)). one ∷ rest) (alone ∙ ap (λ (rest : List (List ℕ)). without one texts ++ rest) stays)
        ∙ ap (λ b. cond b (one ∷ without one texts) (one ∷ without one texts ++ text ∷ [])) (sym (any-without one text e texts ∙ among))

firsts-push : (texts : List (List ℕ)) (text : List ℕ) → firsts (texts ++ text ∷ []) ≡ placed text (firsts texts)
firsts-push [] text = refl
firsts-push (one ∷ texts) text =
    ap (λ (rest : List (List ℕ)). one ∷ without one rest) (firsts-push texts text) ∙ placed-behind one text (firsts texts)

-- ---- one more entry

in-front : (b : Bool) (one : List ℕ) (some others : List (List ℕ)) → one ∷ cond b some others ≡ cond b (one ∷ some) (one ∷ others)
in-front true one some others = refl
in-front false one some others = refl

texts-inserted : (entries : List Numbered) (text : List ℕ) (number : ℕ)
    → kept_texts (insert_entry bytes_eq entries text number) ≡ placed text (kept_texts entries)
texts-inserted [] text number = refl
texts-inserted (entry ∷ entries) text number = by (bytes_eq text entry.0) (texts-inserted entries text number)
  where
    by : (b : Bool) → kept_texts (insert_entry bytes_eq entries text number) ≡ placed text (kept_texts entries)
        → kept_texts (cond b ((entry.0, number) ∷ entries) (entry ∷ insert_entry bytes_eq entries text number))
        ≡ cond (b || list_any (bytes_eq text) (kept_texts entries)) (entry.0 ∷ kept_texts entries) (entry.0 ∷ kept_texts entries ++ text ∷ [])
    by true rest = refl
    by false rest =
        ap (λ (more : List (List ℕ)). entry.0 ∷ more) rest
        ∙ in-front (list_any (bytes_eq text) (kept_texts entries)) entry.0 (kept_texts entries) (kept_texts entries ++ text ∷ [])

twice : (b : Bool) (x y z : ℕ) → cond b x z ≡ cond b x (cond b y z)
twice true x y z = refl
twice false x y z = refl

sum-inserted : (entries : List Numbered) (text : List ℕ) (number : ℕ) (other : List ℕ)
    → sum_at (insert_entry bytes_eq entries text number) other ≡ cond (bytes_eq other text) number (sum_at entries other)
sum-inserted [] text number other = refl
sum-inserted (entry ∷ entries) text number other = by (bytes_eq text entry.0) refl (sum-inserted entries text number other)
  where
    here : ℕ
    here = sum_at entries other

    apart : (b c : Bool) → bytes_eq other entry.0 ≡ b → bytes_eq other text ≡ c → bytes_eq text entry.0 ≡ false
        → cond b entry.1 (cond c number here) ≡ cond c number (cond b entry.1 here)
    apart true true e f isnt =
        let same : text ≡ entry.0 = sym ((bytes_eq-Decides other text).0 f) ∙ (bytes_eq-Decides other entry.0).0 e in
        absurd (not-both (bytes_eq text entry.0) ((bytes_eq-Decides text entry.0).1 same) isnt)
    apart true false e f isnt = refl
    apart false c e f isnt = refl

    by : (b : Bool) → bytes_eq text entry.0 ≡ b
        → sum_at (insert_entry bytes_eq entries text number) other ≡ cond (bytes_eq other text) number here
        → sum_at (cond b ((entry.0, number) ∷ entries) (entry ∷ insert_entry bytes_eq entries text number)) other
        ≡ cond (bytes_eq other text) number (cond (bytes_eq other entry.0) entry.1 here)
    by true e rest =
        let same : text ≡ entry.0 = (bytes_eq-Decides text entry.0).0 e in
        twice (bytes_eq other entry.0) number entry.1 here
        ∙ ap (λ (t : List ℕ). cond (bytes_eq other t) number (cond (bytes_eq other entry.0) entry.1 here)) (sym same)
    by false e rest =
        ap (λ n. cond (bytes_eq other entry.0) entry.1 n) rest
        ∙ apart (bytes_eq other entry.0) (bytes_eq other text) refl refl e

sum-push : (pairs : List Numbered) (text : List ℕ) (number : ℕ) (other : List ℕ)
    → sum_for (pairs ++ (text, number) ∷ []) other ≡ sum_for pairs other + cond (bytes_eq other text) number 0
sum-push pairs text number other =
    ap (sum_by (λ (pair : Numbered). pair.1)) (filter-append (λ (pair : Numbered). bytes_eq other pair.0) pairs ((text, number) ∷ []))
    ∙ sum_by-append (λ (pair : Numbered). pair.1) (filter (λ (pair : Numbered). bytes_eq other pair.0) pairs)
    (filter (λ (pair : Numbered). bytes_eq other pair.0) ((text, number) ∷ []))
    ∙ ap (λ n. sum_for pairs other + n) (single (bytes_eq other text))
  where
    single : (b : Bool) → sum_by (λ (pair : Numbered). pair.1) (cond b ((text, number) ∷ []) []) ≡ cond b number 0
    single true = omega arith
    single false = refl

-- ---- what is kept

pub sums_none : AreSums [] []
sums_none = record { texts = refl; sums = λ text. refl }

pub sums_more : (pairs entries : List Numbered) (text : List ℕ) (number : ℕ) → AreSums pairs entries
    → AreSums (pairs ++ (text, number) ∷ []) (raised entries text number)
sums_more pairs entries text number are = record {
  texts =
      texts-inserted entries text (sum_at entries text + number)
      ∙ ap (placed text) are.texts
      ∙ sym (firsts-push (map (λ (pair : Numbered). pair.0) pairs) text)
      ∙ ap firsts (sym (map-push (λ (pair : Numbered). pair.0) pairs (text, number)));
  sums = λ other.
      sum-inserted entries text (sum_at entries text + number) other ∙ by other (bytes_eq other text) refl ∙ sym (sum-push pairs text number other);
}
  where
    by : (other : List ℕ) (b : Bool) → bytes_eq other text ≡ b
        → cond b (sum_at entries text + number) (sum_at entries other) ≡ sum_for pairs other + cond b number 0
    by other true e =
        let same : other ≡ text = (bytes_eq-Decides other text).0 e in
        ap (λ n. n + number) (are.sums text ∙ ap (sum_for pairs) (sym same))
    by other false e = omega (arith, are.sums other)
