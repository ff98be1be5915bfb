-- The names of a report: their form, and that they are different.
use Rattle.std.proofs.Common.{◌≡◌, ℕ, ◌<◌, ◌≤◌, ◌^◌, Bool, true, not, ◌==◌, List, [], ◌∷◌, ◌++◌, length, drop, get_or, refl, sym, ap, subst, arith, length-append, decimal}
use Rattle.std.specs.Prelude.{◌&&◌, codes, nat_le}
use Rattle.std.specs.List.{AllByRecursion, list_all}
use Rattle.std.specs.Str.Parse.{AllDigits}
use Rattle.std.proofs.lemmas.Bool.Decides.{nat_tests}
use Rattle.std.proofs.lemmas.Fmt.{decimal_is_IsNumeral, length-decimal-le, decimal_injective}
use Rattle.std.proofs.lemmas.Str.Parse.{tells_digits}
use Rattle.vx_base.proofs.Booleans.{and-both, and-left, and-right}
use Rattle.vx_base.proofs.Numbers.{at_most-yes, at_most-from_yes, equal-no}
use Rattle.vx_election_model.specs.Ids as election
use Rattle.vx_events.specs.declared.key.Key.{Key}
use Rattle.vx_events.specs.Fits.{is_batch, is_batch_character, is_key}
use Rattle.vx_cvr.specs.Names.{hyphened, precinct_name, contest_name, selection_name, sheet_name}
use Rattle.vx_tally.specs.Ids.{is_id_character, is_id}

-- characters that are admitted
abbrev pub AreCharacters : List ℕ → Type 0
AreCharacters text = list_all is_id_character text ≡ true

all-append : (xs ys : List ℕ) → AreCharacters xs → AreCharacters ys → AreCharacters (xs ++ ys)
all-append [] ys first second = second
all-append (x ∷ xs) ys first second =
    and-both (is_id_character x) (list_all is_id_character (xs ++ ys)) (and-left (is_id_character x) (list_all is_id_character xs) first)
    (all-append xs ys (and-right (is_id_character x) (list_all is_id_character xs) first) second)

all-weaker : (p : ℕ → Bool) (xs : List ℕ) → ((x : ℕ) → p x ≡ true → is_id_character x ≡ true) → list_all p xs ≡ true → AreCharacters xs
all-weaker p [] to all = refl
all-weaker p (x ∷ xs) to all =
    and-both (is_id_character x) (list_all is_id_character xs) (to x (and-left (p x) (list_all p xs) all))
    (all-weaker p xs to (and-right (p x) (list_all p xs) all))

character : (b : ℕ) → 45 ≤ b → b ≤ 126 → is_id_character b ≡ true
character b low high =
    and-both (nat_le 33 b && nat_le b 126) (not (b == 44))
    (and-both (nat_le 33 b) (nat_le b 126) (at_most-yes 33 b (omega (arith, low))) (at_most-yes b 126 high))
    (ap not (equal-no b 44 (λ e. omega (arith, e, low))))

id-character : (b : ℕ) → election.is_id_character b ≡ true → is_id_character b ≡ true
id-character b is = let range : (45 ≤ b) × (b ≤ 126) = in-range b is in character b range.0 range.1
  where
    in-range : (b : ℕ) → election.is_id_character b ≡ true → (45 ≤ b) × (b ≤ 126)
    in-range b is = (grind (arith, nat_tests), grind (arith, nat_tests))

batch-character : (b : ℕ) → is_batch_character b ≡ true → is_id_character b ≡ true
batch-character b is = let range : (45 ≤ b) × (b ≤ 126) = in-range b is in character b range.0 range.1
  where
    in-range : (b : ℕ) → is_batch_character b ≡ true → (45 ≤ b) × (b ≤ 126)
    in-range b is = (grind (arith, nat_tests), grind (arith, nat_tests))

digits-characters : (ds : List ℕ) → AllDigits 10 ds → AreCharacters ds
digits-characters [] all = refl
digits-characters (d ∷ ds) all =
    let range = (tells_digits.parts d ds all).0 in
    and-both (is_id_character d) (list_all is_id_character ds) (character d (omega (arith, range)) (omega (arith, range))) (digits-characters ds all.1)

-- an id of a few characters
made-id : (text : List ℕ) → 1 ≤ length text → length text ≤ 256 → AreCharacters text → is_id text ≡ true
unfolding is_id
made-id text some few are =
    and-both (nat_le 1 (length text) && nat_le (length text) 256) (list_all is_id_character text)
    (and-both (nat_le 1 (length text)) (nat_le (length text) 256) (at_most-yes 1 (length text) some) (at_most-yes (length text) 256 few)) are

-- an id of the election
pub record IsShortId (id : List ℕ) : Type 0 where
  pub few : length id ≤ 64
  pub are : AreCharacters id

pub short-id : (id : List ℕ) → election.is_id id ≡ true → IsShortId id
unfolding election.is_id
short-id id is =
    record {
      few = at_most-from_yes (length id) 64
          (and-right (nat_le 1 (length id)) (nat_le (length id) 64)
          (and-left (nat_le 1 (length id) && nat_le (length id) 64) (list_all election.is_id_character id) is));
      are = all-weaker election.is_id_character id id-character
          (and-right (nat_le 1 (length id) && nat_le (length id) 64) (list_all election.is_id_character id) is);
    }

pub scope-id : is_id (codes "scope") ≡ true
unfolding is_id
scope-id = refl

prefixed-id : (prefix text : List ℕ) → 1 ≤ length prefix → length prefix ≤ 20 → AreCharacters prefix → length text ≤ 200 → AreCharacters text
    → is_id (prefix ++ text) ≡ true
prefixed-id prefix text some few are short given =
    made-id (prefix ++ text) (omega (arith, length-append prefix text, some)) (omega (arith, length-append prefix text, few, short))
    (all-append prefix text are given)

pub precinct-id : (id : List ℕ) → election.is_id id ≡ true → is_id (precinct_name id) ≡ true
precinct-id id is = let short = short-id id is in prefixed-id (codes "precinct-") id (omega arith) (omega arith) refl (omega (arith, short.few)) short.are

pub contest-id : (id : List ℕ) → election.is_id id ≡ true → is_id (contest_name id) ≡ true
contest-id id is = let short = short-id id is in prefixed-id (codes "contest-") id (omega arith) (omega arith) refl (omega (arith, short.few)) short.are

-- a hyphen, and a number behind it
numbered : (first : List ℕ) (n : ℕ) → n < 2 ^ 64 → length first ≤ 64 → AreCharacters first
    → (length (hyphened first (decimal n)) ≤ 200) × AreCharacters (hyphened first (decimal n))
numbered first n small few are = (
  omega (arith, length-append first (45 ∷ decimal n), few, length-decimal-le 20 n (omega arith) (omega (arith, small)) small),
  all-append first (45 ∷ decimal n) are (digits-characters (decimal n) (decimal_is_IsNumeral n small).0.1),
)

pub selection-id : (contest : List ℕ) (option : ℕ) → election.is_id contest ≡ true → option < 2 ^ 64 → is_id (selection_name contest option) ≡ true
selection-id contest option is small =
    let short = short-id contest is in
    let text = numbered contest option small short.few short.are in
    prefixed-id (codes "selection-") (hyphened contest (decimal option)) (omega arith) (omega arith) refl text.0 text.1

-- digits have no hyphen
digits-none : (ds : List ℕ) → AllDigits 10 ds → AllByRecursion (λ (b : ℕ). b ≡ 45 → ⊥) ds
digits-none [] all = tt
digits-none (d ∷ ds) all = let range = (tells_digits.parts d ds all).0 in ((λ e. omega (arith, range, e)), digits-none ds all.1)

hyphen-in : (text behind : List ℕ) → AllByRecursion (λ (b : ℕ). b ≡ 45 → ⊥) (text ++ 45 ∷ behind) → ⊥
hyphen-in [] behind none = none.0 refl
hyphen-in (b ∷ text) behind none = hyphen-in text behind none.1

-- the last hyphen parts a name
parted : (a b ds es : List ℕ) → AllByRecursion (λ (b : ℕ). b ≡ 45 → ⊥) ds → AllByRecursion (λ (b : ℕ). b ≡ 45 → ⊥) es → a ++ 45 ∷ ds ≡ b ++ 45 ∷ es
    → (a ≡ b) × (ds ≡ es)
parted [] [] ds es none unhyphened same = (refl, ap (drop 1) same)
parted [] (y ∷ b) ds es none unhyphened same =
    absurd (hyphen-in b es (subst (λ (text : List ℕ). AllByRecursion (λ (b : ℕ). b ≡ 45 → ⊥) text) (ap (drop 1) same) none))
parted (x ∷ a) [] ds es none unhyphened same =
    absurd (hyphen-in a ds (subst (λ (text : List ℕ). AllByRecursion (λ (b : ℕ). b ≡ 45 → ⊥) text) (sym (ap (drop 1) same)) unhyphened))
parted (x ∷ a) (y ∷ b) ds es none unhyphened same =
    let rest = parted a b ds es none unhyphened (ap (drop 1) same) in
    (λ i. ap (λ (text : List ℕ). get_or text 0 0) same i ∷ rest.0 i, rest.1)

pub hyphened-same : (a b : List ℕ) (m n : ℕ) → m < 2 ^ 64 → n < 2 ^ 64 → hyphened a (decimal m) ≡ hyphened b (decimal n) → (a ≡ b) × (m ≡ n)
hyphened-same a b m n few many same =
    let parts = parted a b (decimal m) (decimal n) (digits-none (decimal m) (decimal_is_IsNumeral m few).0.1)
    (digits-none (decimal n) (decimal_is_IsNumeral n many).0.1) same in
    (parts.0, decimal_injective m n few many parts.1)

pub precinct-same : (a b : List ℕ) → precinct_name a ≡ precinct_name b → a ≡ b
precinct-same a b same = ap (drop 9) same

pub contest-same : (a b : List ℕ) → contest_name a ≡ contest_name b → a ≡ b
contest-same a b same = ap (drop 8) same

pub selection-same : (a b : List ℕ) (m n : ℕ) → m < 2 ^ 64 → n < 2 ^ 64 → selection_name a m ≡ selection_name b n → (a ≡ b) × (m ≡ n)
selection-same a b m n few many same = hyphened-same a b m n few many (ap (drop 10) same)

-- a key's name
pub record IsShortKey (key : Key) : Type 0 where
  pub some : 1 ≤ length key.batch
  pub few : length key.batch ≤ 64
  pub are : AreCharacters key.batch
  pub small : key.number < 2 ^ 64

pub short-key : (key : Key) → is_key key ≡ true → IsShortKey key
short-key key is =
    let batch = and-left (is_batch key.batch) _ is in
    let size = and-left (nat_le 1 (length key.batch) && nat_le (length key.batch) 32) (list_all is_batch_character key.batch) batch in
    record {
      some = at_most-from_yes 1 (length key.batch) (and-left (nat_le 1 (length key.batch)) _ size);
      few = omega (arith, at_most-from_yes (length key.batch) 32 (and-right (nat_le 1 (length key.batch)) _ size));
      are = all-weaker is_batch_character key.batch batch-character
          (and-right (nat_le 1 (length key.batch) && nat_le (length key.batch) 32) (list_all is_batch_character key.batch) batch);
      small = omega (arith, at_most-from_yes key.number 999999 (and-right (nat_le 1 key.number) _ (and-right (is_batch key.batch) _ is)));
    }

pub sheet-id : (key : Key) → is_key key ≡ true → is_id (sheet_name key) ≡ true
sheet-id key is =
    let short = short-key key is in
    let text = numbered key.batch key.number short.small short.few short.are in
    made-id (sheet_name key) (omega (arith, length-append key.batch (45 ∷ decimal key.number))) (omega (arith, text.0)) text.1

pub sheet-same : (one other : Key) → is_key one ≡ true → is_key other ≡ true → sheet_name one ≡ sheet_name other
    → (one.batch ≡ other.batch) × (one.number ≡ other.number)
sheet-same one other is fits same = hyphened-same one.batch other.batch one.number other.number (short-key one is).small (short-key other fits).small same
