-- Stations, batches and keys as parts of a text.
use Rattle.std.proofs.Common.{◌≡◌, ℕ, zero, suc, ◌+◌, ◌-◌, ◌≤◌, ◌<◌, Bool, true, false, cond, List, [], ◌∷◌, ◌++◌, length, refl, ap, sym, subst, ◌∙◌, inl, inr, arith, length-append, append-nil, append_assoc}
use Rattle.std.specs.Prelude.{Result, Ok, Err, ◌&&◌, not, nat_le}
use Rattle.std.specs.List.{list_all}
use Rattle.std.specs.Fmt.{decimal}
use Rattle.vx_base.specs.Results.{◌>>=◌}
use Rattle.vx_base.proofs.Booleans.{and-left, and-right, and-both}
use Rattle.vx_json.specs.Reading.{is_within}
use Rattle.vx_events.specs.Fits.{is_batch_character, is_batch, is_key, is_station}
use Rattle.vx_events.specs.declared.key.Key.{Key}
use Rattle.vx_records.specs.declared.numbers.Numbers.TheVariants.{Between}
use Rattle.vx_records.specs.Parts.{Found, Read, found, stop, followed_by, ended, letters_in}
use Rattle.vx_records.specs.Numbers.{number_in}
use Rattle.vx_records.specs.Reading.{station_in, batch_in, key_in, claim_in}
use Rattle.vx_records.proofs.Grammar.{Part, Both, Some_text, StopsAt, StopsAt-any, any, none, then_in, then_part}
use Rattle.vx_records.proofs.Steps.{Spelled, Mapped, map_in, map_part, same_texts, followed_part, ended_part}
use Rattle.vx_records.proofs.Runs.{AreLetters, Letters, letters_part, no_letter}
use Rattle.vx_records.proofs.Range.{within, within_low, within_high}
use Rattle.vx_records.proofs.NumberPart.{no_digit}
use Rattle.vx_records.proofs.OptionParts.{Within, within_part, some_within}

-- some text of two parts, and of a value made of another
pub some_both : {A B : Type 0} {P : A → List ℕ → Type 0} {Q : A → ℕ → B → List ℕ → Type 0} → Some_text P → ((a : A) (n : ℕ) → Some_text (Q a n)) → Some_text (Both P Q)
some_both p q =
    let r = q p.b (length p.w) in
    record { b = r.b; w = p.w ++ r.w; is = record { a = p.b; u = p.w; w = r.w; first = p.is; second = r.is; text = refl } }

pub some_mapped : {A B : Type 0} {P : A → List ℕ → Type 0} (f : A → B) → Some_text P → Some_text (Mapped f P)
some_mapped f p = record { b = f p.b; w = p.w; is = record { a = p.b; is = p.is; value = refl } }

-- a number and a blank
abbrev pub Blank_number : ℕ → ℕ → ℕ → List ℕ → Type 0
Blank_number least most = Spelled (λ n. is_within least most n ≡ true) (λ n. decimal n ++ 32 ∷ [])

pub blank_number_part : (least most : ℕ) → least ≤ most → most < 1000000 → Part (Blank_number least most) any (λ s. followed_by 32 (number_in (Between least most) s))
blank_number_part least most h k = followed_part (λ n. is_within least most n ≡ true) decimal no_digit (number_in (Between least most)) (within_part least most h k) 32 refl

pub some_blank_number : (least most : ℕ) → least ≤ most → Some_text (Blank_number least most)
some_blank_number least most h = record { b = least; w = decimal least ++ 32 ∷ []; is = record { is = within least most least (omega arith) h; text = refl } }

abbrev pub Station : ℕ → List ℕ → Type 0
Station = Blank_number 1 9999

pub station_part : Part Station any station_in
unfolding station_in
station_part = blank_number_part 1 9999 (omega arith) (omega arith)

abbrev pub Batch : List ℕ → List ℕ → Type 0
Batch = Spelled (λ batch. is_batch batch ≡ true) (λ batch. batch ++ 32 ∷ [])

batch_to : (b u : List ℕ) → Spelled (AreLetters is_batch_character 1 32) (λ batch. batch ++ 32 ∷ []) b u → Batch b u
batch_to b u h = record { is = and-both (is_within 1 32 (length b)) (list_all is_batch_character b) (within 1 32 (length b) h.is.low h.is.high) h.is.letters; text = h.text }

batch_back : (b u : List ℕ) → Batch b u → Spelled (AreLetters is_batch_character 1 32) (λ batch. batch ++ 32 ∷ []) b u
batch_back b u h =
    let size = and-left (is_within 1 32 (length b)) (list_all is_batch_character b) h.is in
    record { is = record { letters = and-right (is_within 1 32 (length b)) (list_all is_batch_character b) h.is; low = within_low 1 32 (length b) size; high = within_high 1 32 (length b) size }; text = h.text }

pub batch_part : Part Batch any batch_in
unfolding batch_in
batch_part = same_texts (followed_part (AreLetters is_batch_character 1 32) (λ x. x) (no_letter is_batch_character) (letters_in is_batch_character 1 32) (letters_part is_batch_character 1 32) 32 refl)
    (λ b u h. batch_to b u h) (λ b u h. batch_back b u h)

-- a key's batch and number
abbrev pub key_text : Key → List ℕ
key_text key = (key.batch ++ 32 ∷ []) ++ decimal key.number

abbrev pub IsKey : Key → List ℕ → Type 0
IsKey = Spelled (λ key. is_key key ≡ true) key_text

abbrev made_key : List ℕ → ℕ → Key
made_key batch number = record { batch = batch; number = number }

abbrev Numbered : List ℕ → ℕ → Key → List ℕ → Type 0
Numbered batch n = Mapped (made_key batch) (Within 1 999999)

key_to : (k : Key) (u : List ℕ) → Both Batch Numbered k u → IsKey k u
key_to k u h =
    subst (λ (key : Key). IsKey key u) (sym h.second.value) (record {
      is = and-both (is_batch h.a) (is_within 1 999999 h.second.a) h.first.is h.second.is.is;
      text = h.text ∙ ap (λ (t : List ℕ). t ++ h.w) h.first.text ∙ ap (λ (t : List ℕ). (h.a ++ 32 ∷ []) ++ t) h.second.is.text;
    })

key_back : (k : Key) (u : List ℕ) → IsKey k u → Both Batch Numbered k u
key_back k u h = record {
  a = k.batch;
  u = k.batch ++ 32 ∷ [];
  w = decimal k.number;
  first = record { is = and-left (is_batch k.batch) (is_within 1 999999 k.number) h.is; text = refl };
  second = record { a = k.number; is = record { is = and-right (is_batch k.batch) (is_within 1 999999 k.number) h.is; text = refl }; value = refl };
  text = h.text;
}

pub key_part : Part IsKey no_digit key_in
unfolding key_in
key_part = same_texts
    (then_part Batch any batch_in Numbered no_digit (λ batch n. map_in (made_key batch) (number_in (Between 1 999999)))
    batch_part (λ batch n. map_part (made_key batch) (within_part 1 999999 (omega arith) (omega arith)))
    (λ batch u h. some_mapped (made_key batch) (some_within 1 999999 (omega arith)))
    (λ batch n k w x h j. StopsAt-any (w ++ x)))
    (λ k u h. key_to k u h) (λ k u h. key_back k u h)

pub some_key : Some_text IsKey
some_key = record { b = record { batch = 65 ∷ []; number = 1 }; w = (65 ∷ 32 ∷ []) ++ decimal 1; is = record { is = refl; text = refl } }

abbrev pub Blank_key : Key → List ℕ → Type 0
Blank_key = Spelled (λ key. is_key key ≡ true) (λ key. key_text key ++ 32 ∷ [])

pub blank_key_part : Part Blank_key any (λ s. followed_by 32 (key_in s))
blank_key_part = followed_part (λ key. is_key key ≡ true) key_text no_digit key_in key_part 32 refl

pub some_blank_key : Some_text Blank_key
some_blank_key = record { b = some_key.b; w = key_text some_key.b ++ 32 ∷ []; is = record { is = some_key.is.is; text = refl } }

-- a station and a key, and nothing more
pub record Claims (x : ℕ × Key) : Type 0 where
  pub station : is_station x.0 ≡ true
  pub key : is_key x.1 ≡ true

abbrev pub claim_text : ℕ × Key → List ℕ
claim_text x = (decimal x.0 ++ 32 ∷ []) ++ key_text x.1

abbrev made_claim : ℕ → Key → ℕ × Key
made_claim station key = (station, key)

abbrev Claimed : ℕ → ℕ → ℕ × Key → List ℕ → Type 0
Claimed station n = Mapped (made_claim station) IsKey

claim_to : (x : ℕ × Key) (u : List ℕ) → Both Station Claimed x u → Spelled Claims claim_text x u
claim_to x u h =
    subst (λ (y : ℕ × Key). Spelled Claims claim_text y u) (sym h.second.value) (record {
      is = record { station = h.first.is; key = h.second.is.is };
      text = h.text ∙ ap (λ (t : List ℕ). t ++ h.w) h.first.text ∙ ap (λ (t : List ℕ). (decimal h.a ++ 32 ∷ []) ++ t) h.second.is.text;
    })

claim_back : (x : ℕ × Key) (u : List ℕ) → Spelled Claims claim_text x u → Both Station Claimed x u
claim_back x u h = record {
  a = x.0;
  u = decimal x.0 ++ 32 ∷ [];
  w = key_text x.1;
  first = record { is = h.is.station; text = refl };
  second = record { a = x.1; is = record { is = h.is.key; text = refl }; value = refl };
  text = h.text;
}

pub claim_part : Part (Spelled Claims claim_text) none claim_in
unfolding claim_in
claim_part = same_texts
    (then_part Station any station_in Claimed none (λ station n. map_in (made_claim station) (λ s. ended (key_in s)))
    station_part (λ station n. map_part (made_claim station) (ended_part (λ key. is_key key ≡ true) key_text no_digit key_in key_part))
    (λ station u h. some_mapped (made_claim station) some_key)
    (λ station n k w x h j. StopsAt-any (w ++ x)))
    (λ x u h. claim_to x u h) (λ x u h. claim_back x u h)

pub some_claim : Some_text (Spelled Claims claim_text)
some_claim = record { b = (1, some_key.b); w = claim_text (1, some_key.b); is = record { is = record { station = refl; key = some_key.is.is }; text = refl } }
