-- The characters of the table are those of UTF-8.
use Rattle.std.proofs.Common.{◌≡◌, ℕ, zero, suc, ◌+◌, ◌-◌, ◌*◌, ◌/◌, ◌%◌, ◌≤◌, ◌<◌, Bool, true, false, cond, List, [], ◌∷◌, ◌++◌, length, refl, ap, sym, subst, ◌∙◌, inl, inr, arith, append_assoc}
use Rattle.std.specs.Prelude.{◌&&◌, ◌||◌, ◌==◌, not, nat_le, nat_lt, ◌⊎◌}
use Rattle.std.specs.List.{list_all}
use Rattle.std.specs.Str.{continuation_len, IsUtf8}
use Rattle.std.specs.Str.Lossy.{second_byte_min, second_byte_max}
use Rattle.std.proofs.Math.Utf8.{encode, scalar}
use Rattle.std.proofs.lemmas.Bool.{cond_both, eqb-true, ltb-true, ltb-false, lt-ltb, le-ltb, le-leb, leb-true, ne_eqb, cases_lt, eqb-false}
use Rattle.vx_base.proofs.Booleans.{and-left, and-right, and-both, or-left, or-right, or-cases}
use Rattle.vx_json.specs.Reading.{is_within}
use Rattle.vx_events.specs.Fits.{is_name_byte}
use Rattle.vx_records.specs.Characters.{is_lead}
use Rattle.vx_records.proofs.Range.{within, within_low, within_high}

-- further bytes of a character, the first of them within a range
pub data Follow : ℕ → ℕ → ℕ → List ℕ → Type 0 where
  no_follow : {low high : ℕ} → Follow zero low high []
  follow : {count low high : ℕ} {u : List ℕ} (b : ℕ) → is_within low high b ≡ true → Follow count 128 191 u → Follow (suc count) low high (b ∷ u)

min_le : (b x : ℕ) → (b ≡ 224 → 160 ≤ x) → (b ≡ 240 → 144 ≤ x) → 128 ≤ x → second_byte_min b ≤ x
min_le b x three four low =
    cond_both (b == 224) 160 (cond (b == 240) 144 128) (λ m. m ≤ x) (λ e. three (eqb-true b 224 e))
    (λ e. cond_both (b == 240) 144 128 (λ m. m ≤ x) (λ f. four (eqb-true b 240 f)) (λ f. low))

le_max : (b x : ℕ) → (b ≡ 237 → x ≤ 159) → (b ≡ 244 → x ≤ 143) → x ≤ 191 → x ≤ second_byte_max b
le_max b x three four high =
    cond_both (b == 237) 159 (cond (b == 244) 143 191) (λ m. x ≤ m) (λ e. three (eqb-true b 237 e))
    (λ e. cond_both (b == 244) 143 191 (λ m. x ≤ m) (λ f. four (eqb-true b 244 f)) (λ f. high))

-- what the bounds of the second byte say
record Second (b x : ℕ) : Type 0 where
  low : 128 ≤ x
  high : x ≤ 191
  three_low : b ≡ 224 → 160 ≤ x
  three_high : b ≡ 237 → x ≤ 159
  four_low : b ≡ 240 → 144 ≤ x
  four_high : b ≡ 244 → x ≤ 143

second_of : (b x : ℕ) → is_within (second_byte_min b) (second_byte_max b) x ≡ true → Second b x
second_of b x h =
    let low = within_low (second_byte_min b) (second_byte_max b) x h in
    let high = within_high (second_byte_min b) (second_byte_max b) x h in
    second_at b x low high where
      least_128 : (b : ℕ) → 128 ≤ second_byte_min b
      least_128 b = cond_both (b == 224) 160 (cond (b == 240) 144 128) (λ m. 128 ≤ m) (λ e. omega arith) (λ e. cond_both (b == 240) 144 128 (λ m. 128 ≤ m) (λ f. omega arith) (λ f. omega arith))

      most_191 : (b : ℕ) → second_byte_max b ≤ 191
      most_191 b = cond_both (b == 237) 159 (cond (b == 244) 143 191) (λ m. m ≤ 191) (λ e. omega arith) (λ e. cond_both (b == 244) 143 191 (λ m. m ≤ 191) (λ f. omega arith) (λ f. omega arith))

      at_min : (b c x : ℕ) → b ≡ c → second_byte_min b ≤ x → second_byte_min c ≤ x
      at_min b c x e h = subst (λ (n : ℕ). second_byte_min n ≤ x) e h

      at_max : (b c x : ℕ) → b ≡ c → x ≤ second_byte_max b → x ≤ second_byte_max c
      at_max b c x e h = subst (λ (n : ℕ). x ≤ second_byte_max n) e h

      second_at : (b x : ℕ) → second_byte_min b ≤ x → x ≤ second_byte_max b → Second b x
      second_at b x low high = record {
        low = omega (arith, least_128 b, low);
        high = omega (arith, most_191 b, high);
        three_low = λ e. at_min b 224 x e low;
        three_high = λ e. at_max b 237 x e high;
        four_low = λ e. at_min b 240 x e low;
        four_high = λ e. at_max b 244 x e high;
      }

cl_1 : (b : ℕ) → b < 128 → continuation_len b ≡ 0
cl_1 b h = rw (lt-ltb b 128 h) refl

cl_2 : (b : ℕ) → 128 ≤ b → b < 224 → continuation_len b ≡ 1
cl_2 b h j = rw (le-ltb b 128 h) (rw (lt-ltb b 224 j) refl)

cl_3 : (b : ℕ) → 224 ≤ b → b < 240 → continuation_len b ≡ 2
cl_3 b h j = rw (le-ltb b 128 (omega arith)) (rw (le-ltb b 224 h) (rw (lt-ltb b 240 j) refl))

cl_4 : (b : ℕ) → 240 ≤ b → continuation_len b ≡ 3
cl_4 b h = rw (le-ltb b 128 (omega arith)) (rw (le-ltb b 224 (omega arith)) (rw (le-ltb b 240 h) refl))

-- the bytes of a character, by its size
bytes_1 : (c : ℕ) → c < 128 → encode c ≡ c ∷ []
unfolding encode
bytes_1 c h = rw (lt-ltb c 128 h) refl

bytes_2 : (c : ℕ) → 128 ≤ c → c < 2048 → encode c ≡ (192 + c / 64) ∷ (128 + c % 64) ∷ []
unfolding encode
bytes_2 c h j = rw (le-ltb c 128 h) (rw (lt-ltb c 2048 j) refl)

bytes_3 : (c : ℕ) → 2048 ≤ c → c < 65536 → encode c ≡ (224 + c / 4096) ∷ (128 + (c / 64) % 64) ∷ (128 + c % 64) ∷ []
unfolding encode
bytes_3 c h j = rw (le-ltb c 128 (omega arith)) (rw (le-ltb c 2048 h) (rw (lt-ltb c 65536 j) refl))

bytes_4 : (c : ℕ) → 65536 ≤ c → encode c ≡ (240 + c / 262144) ∷ (128 + (c / 4096) % 64) ∷ (128 + (c / 64) % 64) ∷ (128 + c % 64) ∷ []
unfolding encode
bytes_4 c h = rw (le-ltb c 128 (omega arith)) (rw (le-ltb c 2048 (omega arith)) (rw (le-ltb c 65536 h) refl))

-- a character of the table
pub record IsChar (u : List ℕ) : Type 0 where
  pub lead : ℕ
  pub more : List ℕ
  pub is : is_lead lead ≡ true
  pub follows : Follow (continuation_len lead) (second_byte_min lead) (second_byte_max lead) more
  pub text : u ≡ lead ∷ more

lead_high : (b : ℕ) → 194 ≤ b → b ≤ 244 → is_lead b ≡ true
lead_high b h j = or-right (is_within 32 126 b) (is_within 194 244 b) (within 194 244 b h j)

tail : (x : ℕ) → 128 ≤ x → x ≤ 191 → is_within 128 191 x ≡ true
tail x h j = within 128 191 x h j

second : (b x : ℕ) → (b ≡ 224 → 160 ≤ x) → (b ≡ 240 → 144 ≤ x) → (b ≡ 237 → x ≤ 159) → (b ≡ 244 → x ≤ 143) → 128 ≤ x → x ≤ 191 → is_within (second_byte_min b) (second_byte_max b) x ≡ true
second b x a c d e low high = within (second_byte_min b) (second_byte_max b) x (min_le b x a c low) (le_max b x d e high)

-- a scalar value's two ranges
record Scalar (c : ℕ) : Type 0 where
  below : c < 1114112
  apart : (c < 55296) ⊎ (57344 ≤ c)

scalar_of : (c : ℕ) → scalar c ≡ true → Scalar c
scalar_of c h = elim (cases_lt c 55296) [
  | inl a ↦ record { below = omega arith; apart = inl a }
  | inr a ↦ high (scalar_at (nat_lt c 55296) (le-ltb c 55296 a) h)
] where
  scalar_at : (t : Bool) → t ≡ false → cond t true (nat_le 57344 c && nat_lt c 1114112) ≡ true → (nat_le 57344 c && nat_lt c 1114112) ≡ true
  scalar_at true e h = absurd cc
  scalar_at false e h = h

  high : (nat_le 57344 c && nat_lt c 1114112) ≡ true → Scalar c
  high h = record { below = ltb-true c 1114112 (and-right (nat_le 57344 c) (nat_lt c 1114112) h); apart = inr (leb-true 57344 c (and-left (nat_le 57344 c) (nat_lt c 1114112) h)) }

scalar_is : (c : ℕ) → (c < 55296) ⊎ ((57344 ≤ c) × (c < 1114112)) → scalar c ≡ true
scalar_is c (inl h) = rw (lt-ltb c 55296 h) refl
scalar_is c (inr h) = rw (le-ltb c 55296 (omega (arith, h.0))) (and-both (nat_le 57344 c) (nat_lt c 1114112) (le-leb 57344 c h.0) (lt-ltb c 1114112 h.1))

name_low : (b : ℕ) → is_name_byte b ≡ true → 32 ≤ b
name_low b h = leb-true 32 b (and-left (nat_le 32 b) (not (b == 127)) h)

name_other : (b : ℕ) → is_name_byte b ≡ true → b ≡ 127 → ⊥
name_other b h e = clash (subst (λ (n : ℕ). is_name_byte n ≡ true) e h) where
  clash : is_name_byte 127 ≡ true → ⊥
  clash h = cc

name_is : (b : ℕ) → 32 ≤ b → (b ≡ 127 → ⊥) → is_name_byte b ≡ true
name_is b h e = and-both (nat_le 32 b) (not (b == 127)) (le-leb 32 b h) (ap not (ne_eqb b 127 e))

char_1 : (c : ℕ) → c < 128 → is_name_byte c ≡ true → IsChar (encode c)
char_1 c h name = record {
  lead = c;
  more = [];
  is = or-left (is_within 32 126 c) (is_within 194 244 c) (within 32 126 c (name_low c name) (other c (name_other c name) h));
  follows = subst (λ (n : ℕ). Follow n (second_byte_min c) (second_byte_max c) []) (sym (cl_1 c h)) no_follow;
  text = bytes_1 c h;
} where
  other : (c : ℕ) → (c ≡ 127 → ⊥) → c < 128 → c ≤ 126
  other c e h = omega (arith, e)

char_2 : (c : ℕ) → 128 ≤ c → c < 2048 → IsChar (encode c)
char_2 c h j =
    let b = 192 + c / 64 in
    let x = 128 + c % 64 in
    record {
      lead = b;
      more = x ∷ [];
      is = lead_high b (omega arith) (omega arith);
      follows = subst (λ (n : ℕ). Follow n (second_byte_min b) (second_byte_max b) (x ∷ [])) (sym (cl_2 b (omega arith) (omega arith)))
          (follow x (second b x (λ e. absurd (omega (arith, e))) (λ e. absurd (omega (arith, e))) (λ e. absurd (omega (arith, e))) (λ e. absurd (omega (arith, e))) (omega arith) (omega arith)) no_follow);
      text = bytes_2 c h j;
    }

-- how the parts of a number of three and of four bytes hang together
parts_3 : (c : ℕ) → (c / 64) / 64 ≡ c / 4096
parts_3 c = omega arith

parts_4 : (c : ℕ) → (c / 4096) / 64 ≡ c / 262144
parts_4 c = omega arith

char_3 : (c : ℕ) → 2048 ≤ c → c < 65536 → Scalar c → IsChar (encode c)
char_3 c h j s =
    let b = 224 + c / 4096 in
    let x = 128 + (c / 64) % 64 in
    let y = 128 + c % 64 in
    let p = parts_3 c in
    record {
      lead = b;
      more = x ∷ y ∷ [];
      is = lead_high b (omega arith) (omega arith);
      follows = subst (λ (n : ℕ). Follow n (second_byte_min b) (second_byte_max b) (x ∷ y ∷ [])) (sym (cl_3 b (omega arith) (omega arith)))
          (follow x (second b x (λ e. omega (arith, e, p)) (λ e. absurd (omega (arith, e))) (λ e. surrogate s.apart e p) (λ e. absurd (omega (arith, e))) (omega arith) (omega arith))
          (follow y (tail y (omega arith) (omega arith)) no_follow));
      text = bytes_3 c h j;
    } where
      surrogate : (c < 55296) ⊎ (57344 ≤ c) → 224 + c / 4096 ≡ 237 → (c / 64) / 64 ≡ c / 4096 → 128 + (c / 64) % 64 ≤ 159
      surrogate (inl a) e p = omega (arith, a, e, p)
      surrogate (inr a) e p = absurd (omega (arith, a, e))

char_4 : (c : ℕ) → 65536 ≤ c → Scalar c → IsChar (encode c)
char_4 c h s =
    let b = 240 + c / 262144 in
    let x = 128 + (c / 4096) % 64 in
    let y = 128 + (c / 64) % 64 in
    let z = 128 + c % 64 in
    let p = parts_4 c in
    let below = s.below in
    record {
      lead = b;
      more = x ∷ y ∷ z ∷ [];
      is = lead_high b (omega arith) (omega (arith, below));
      follows = subst (λ (n : ℕ). Follow n (second_byte_min b) (second_byte_max b) (x ∷ y ∷ z ∷ [])) (sym (cl_4 b (omega arith)))
          (follow x (second b x (λ e. absurd (omega (arith, e))) (λ e. omega (arith, e, p)) (λ e. absurd (omega (arith, e))) (λ e. omega (arith, e, p, below)) (omega arith) (omega arith))
          (follow y (tail y (omega arith) (omega arith)) (follow z (tail z (omega arith) (omega arith)) no_follow)));
      text = bytes_4 c h;
    }

-- a scalar value whose bytes aren't control characters is a character of the table
pub char_of : (c : ℕ) → scalar c ≡ true → list_all is_name_byte (encode c) ≡ true → IsChar (encode c)
char_of c s names = elim (cases_lt c 128) [
  | inl a ↦ char_1 c a (first_name a)
  | inr a ↦ elim (cases_lt c 2048) [
    | inl d ↦ char_2 c a d
    | inr d ↦ elim (cases_lt c 65536) [ inl e ↦ char_3 c d e (scalar_of c s) | inr e ↦ char_4 c e (scalar_of c s) ]
  ]
] where
  first_name : c < 128 → is_name_byte c ≡ true
  first_name a = and-left (is_name_byte c) true (subst (λ (t : List ℕ). list_all is_name_byte t ≡ true) (bytes_1 c a) names)

-- a character's bytes, none of them a control character
pub record IsScalarText (u : List ℕ) : Type 0 where
  pub c : ℕ
  pub is : scalar c ≡ true
  pub text : encode c ≡ u
  pub names : list_all is_name_byte u ≡ true

high_name : (b : ℕ) → 128 ≤ b → is_name_byte b ≡ true
high_name b h = name_is b (omega arith) (λ e. absurd (omega (arith, e)))

-- the shapes of further bytes
record One_more (low high : ℕ) (u : List ℕ) : Type 0 where
  x : ℕ
  rest : List ℕ
  is : is_within low high x ≡ true
  text : u ≡ x ∷ rest

follow_zero : (low high : ℕ) (u : List ℕ) → Follow zero low high u → u ≡ []
follow_zero low high [] no_follow = refl
follow_zero low high (b ∷ u) h = elim h [ ]

-- one byte more, and those behind it
pub data Splits_follow (count low high : ℕ) (u : List ℕ) : Type 0 where
  splits : (x : ℕ) (rest : List ℕ) → is_within low high x ≡ true → u ≡ x ∷ rest → Follow count 128 191 rest → Splits_follow count low high u

follow_suc : (count low high : ℕ) (u : List ℕ) → Follow (suc count) low high u → Splits_follow count low high u
follow_suc count low high [] h = elim h [ ]
follow_suc count low high (b ∷ u) (follow _ h r) = splits b u h refl r

tail_low : (x : ℕ) → is_within 128 191 x ≡ true → 128 ≤ x
tail_low x h = within_low 128 191 x h

tail_high : (x : ℕ) → is_within 128 191 x ≡ true → x ≤ 191
tail_high x h = within_high 128 191 x h

text_1 : (b : ℕ) → b < 128 → is_lead b ≡ true → IsScalarText (b ∷ [])
text_1 b h lead = or-cases (is_within 32 126 b) (is_within 194 244 b) lead
    (λ k. record { c = b; is = scalar_is b (inl (omega arith)); text = bytes_1 b h; names = and-both (is_name_byte b) true (name_is b (within_low 32 126 b k) (λ e. absurd (omega (arith, e, within_high 32 126 b k)))) refl })
    (λ k. absurd (omega (arith, within_low 194 244 b k)))

text_2 : (b x : ℕ) → 194 ≤ b → b < 224 → 128 ≤ x → x ≤ 191 → IsScalarText (b ∷ x ∷ [])
text_2 b x low high xl xh =
    let c = (b - 192) * 64 + (x - 128) in
    let one : 192 + c / 64 ≡ b = omega arith in
    let two : 128 + c % 64 ≡ x = omega arith in
    record {
      c = c;
      is = scalar_is c (inl (omega arith));
      text = bytes_2 c (omega arith) (omega arith) ∙ ap (λ (n : ℕ). n ∷ (128 + c % 64) ∷ []) one ∙ ap (λ (n : ℕ). b ∷ n ∷ []) two;
      names = and-both (is_name_byte b) (is_name_byte x && true) (high_name b (omega arith)) (and-both (is_name_byte x) true (high_name x xl) refl);
    }

text_3 : (b x y : ℕ) → 224 ≤ b → b < 240 → Second b x → 128 ≤ y → y ≤ 191 → IsScalarText (b ∷ x ∷ y ∷ [])
text_3 b x y low high s yl yh =
    let c = (b - 224) * 4096 + ((x - 128) * 64 + (y - 128)) in
    let xl = s.low in
    let xh = s.high in
    let q : c / 64 ≡ (b - 224) * 64 + (x - 128) = omega (arith, xl, xh) in
    let one : 224 + c / 4096 ≡ b = omega (arith, xl, xh) in
    let two : 128 + (c / 64) % 64 ≡ x = omega (arith, xl, xh, q) in
    let three : 128 + c % 64 ≡ y = omega (arith, xl, xh) in
    record {
      c = c;
      is = scalar_is c (apart xl xh);
      text = bytes_3 c (big xl xh) (omega (arith, xl, xh)) ∙ ap (λ (n : ℕ). n ∷ (128 + (c / 64) % 64) ∷ (128 + c % 64) ∷ []) one ∙ ap (λ (n : ℕ). b ∷ n ∷ (128 + c % 64) ∷ []) two ∙ ap (λ (n : ℕ). b ∷ x ∷ n ∷ []) three;
      names = and-both (is_name_byte b) (is_name_byte x && (is_name_byte y && true)) (high_name b (omega arith)) (and-both (is_name_byte x) (is_name_byte y && true) (high_name x xl) (and-both (is_name_byte y) true (high_name y yl) refl));
    } where
      big : 128 ≤ x → x ≤ 191 → 2048 ≤ (b - 224) * 4096 + ((x - 128) * 64 + (y - 128))
      big xl xh = elim (cases_lt b 225) [ inl a ↦ omega (arith, s.three_low (omega arith)) | inr a ↦ omega (arith, xl) ]

      apart : 128 ≤ x → x ≤ 191 → ((b - 224) * 4096 + ((x - 128) * 64 + (y - 128)) < 55296) ⊎ ((57344 ≤ (b - 224) * 4096 + ((x - 128) * 64 + (y - 128))) × ((b - 224) * 4096 + ((x - 128) * 64 + (y - 128)) < 1114112))
      apart xl xh = elim (cases_lt b 238) [
        | inl a ↦ elim (cases_lt b 237) [ inl d ↦ inl (omega (arith, xl, xh)) | inr d ↦ inl (omega (arith, xl, s.three_high (omega arith))) ]
        | inr a ↦ inr (omega (arith, xl, xh), omega (arith, xl, xh))
      ]

text_4 : (b x y z : ℕ) → 240 ≤ b → b ≤ 244 → Second b x → 128 ≤ y → y ≤ 191 → 128 ≤ z → z ≤ 191 → IsScalarText (b ∷ x ∷ y ∷ z ∷ [])
text_4 b x y z low high s yl yh zl zh =
    let c = (b - 240) * 262144 + ((x - 128) * 4096 + ((y - 128) * 64 + (z - 128))) in
    let xl = s.low in
    let xh = s.high in
    let q : c / 64 ≡ (b - 240) * 4096 + ((x - 128) * 64 + (y - 128)) = omega (arith, xl, xh) in
    let r : c / 4096 ≡ (b - 240) * 64 + (x - 128) = omega (arith, xl, xh) in
    let one : 240 + c / 262144 ≡ b = omega (arith, xl, xh) in
    let two : 128 + (c / 4096) % 64 ≡ x = omega (arith, xl, xh, r) in
    let three : 128 + (c / 64) % 64 ≡ y = omega (arith, xl, xh, q) in
    let four : 128 + c % 64 ≡ z = omega (arith, xl, xh) in
    record {
      c = c;
      is = scalar_is c (inr (omega (arith, big xl xh), small xl xh));
      text = bytes_4 c (big xl xh) ∙ ap (λ (n : ℕ). n ∷ (128 + (c / 4096) % 64) ∷ (128 + (c / 64) % 64) ∷ (128 + c % 64) ∷ []) one ∙ ap (λ (n : ℕ). b ∷ n ∷ (128 + (c / 64) % 64) ∷ (128 + c % 64) ∷ []) two ∙ ap (λ (n : ℕ). b ∷ x ∷ n ∷ (128 + c % 64) ∷ []) three ∙ ap (λ (n : ℕ). b ∷ x ∷ y ∷ n ∷ []) four;
      names = and-both (is_name_byte b) (is_name_byte x && (is_name_byte y && (is_name_byte z && true))) (high_name b (omega arith)) (and-both (is_name_byte x) (is_name_byte y && (is_name_byte z && true)) (high_name x xl) (and-both (is_name_byte y) (is_name_byte z && true) (high_name y yl) (and-both (is_name_byte z) true (high_name z zl) refl)));
    } where
      big : 128 ≤ x → x ≤ 191 → 65536 ≤ (b - 240) * 262144 + ((x - 128) * 4096 + ((y - 128) * 64 + (z - 128)))
      big xl xh = elim (cases_lt b 241) [ inl a ↦ omega (arith, s.four_low (omega arith)) | inr a ↦ omega (arith, xl) ]

      small : 128 ≤ x → x ≤ 191 → (b - 240) * 262144 + ((x - 128) * 4096 + ((y - 128) * 64 + (z - 128))) < 1114112
      small xl xh = elim (cases_lt b 244) [ inl a ↦ omega (arith, xl, xh) | inr a ↦ omega (arith, xl, s.four_high (omega arith)) ]

lead_at_least : (b : ℕ) → is_lead b ≡ true → 128 ≤ b → (194 ≤ b) × (b ≤ 244)
lead_at_least b h k = or-cases (is_within 32 126 b) (is_within 194 244 b) h
    (λ e. absurd (omega (arith, within_high 32 126 b e)))
    (λ e. (within_low 194 244 b e, within_high 194 244 b e))

text_at : (b low high : ℕ) (u v : List ℕ) → u ≡ v → IsScalarText (b ∷ v) → IsScalarText (b ∷ u)
text_at b low high u v e h = subst (λ (t : List ℕ). IsScalarText (b ∷ t)) (sym e) h

from_1 : (b : ℕ) (u : List ℕ) → b < 128 → is_lead b ≡ true → Follow 0 (second_byte_min b) (second_byte_max b) u → IsScalarText (b ∷ u)
from_1 b u h lead f = text_at b 0 0 u [] (follow_zero (second_byte_min b) (second_byte_max b) u f) (text_1 b h lead)

from_2 : (b : ℕ) (u : List ℕ) → 194 ≤ b → b < 224 → Splits_follow 0 (second_byte_min b) (second_byte_max b) u → IsScalarText (b ∷ u)
from_2 b u low high (splits x rest h e r) =
    let s = second_of b x h in
    text_at b 0 0 u (x ∷ []) (e ∙ ap (λ (t : List ℕ). x ∷ t) (follow_zero 128 191 rest r)) (text_2 b x low high s.low s.high)

from_3_at : (b x : ℕ) (u rest : List ℕ) → 224 ≤ b → b < 240 → Second b x → u ≡ x ∷ rest → Splits_follow 0 128 191 rest → IsScalarText (b ∷ u)
from_3_at b x u rest low high s e (splits y last k f r) =
    text_at b 0 0 u (x ∷ y ∷ []) (e ∙ ap (λ (t : List ℕ). x ∷ t) (f ∙ ap (λ (t : List ℕ). y ∷ t) (follow_zero 128 191 last r))) (text_3 b x y low high s (tail_low y k) (tail_high y k))

from_3 : (b : ℕ) (u : List ℕ) → 224 ≤ b → b < 240 → Splits_follow 1 (second_byte_min b) (second_byte_max b) u → IsScalarText (b ∷ u)
from_3 b u low high (splits x rest h e r) = from_3_at b x u rest low high (second_of b x h) e (follow_suc 0 128 191 rest r)

from_4_last : (b x y : ℕ) (u rest last : List ℕ) → 240 ≤ b → b ≤ 244 → Second b x → 128 ≤ y → y ≤ 191 → u ≡ x ∷ rest → rest ≡ y ∷ last → Splits_follow 0 128 191 last → IsScalarText (b ∷ u)
from_4_last b x y u rest last low high s yl yh e f (splits z nil k g r) =
    text_at b 0 0 u (x ∷ y ∷ z ∷ []) (e ∙ ap (λ (t : List ℕ). x ∷ t) (f ∙ ap (λ (t : List ℕ). y ∷ t) (g ∙ ap (λ (t : List ℕ). z ∷ t) (follow_zero 128 191 nil r))))
    (text_4 b x y z low high s yl yh (tail_low z k) (tail_high z k))

from_4_at : (b x : ℕ) (u rest : List ℕ) → 240 ≤ b → b ≤ 244 → Second b x → u ≡ x ∷ rest → Splits_follow 1 128 191 rest → IsScalarText (b ∷ u)
from_4_at b x u rest low high s e (splits y last k f r) = from_4_last b x y u rest last low high s (tail_low y k) (tail_high y k) e f (follow_suc 0 128 191 last r)

from_4 : (b : ℕ) (u : List ℕ) → 240 ≤ b → b ≤ 244 → Splits_follow 2 (second_byte_min b) (second_byte_max b) u → IsScalarText (b ∷ u)
from_4 b u low high (splits x rest h e r) = from_4_at b x u rest low high (second_of b x h) e (follow_suc 1 128 191 rest r)

by_count : (b n : ℕ) (u : List ℕ) → continuation_len b ≡ n → Follow (continuation_len b) (second_byte_min b) (second_byte_max b) u → Follow n (second_byte_min b) (second_byte_max b) u
by_count b n u e h = subst (λ (k : ℕ). Follow k (second_byte_min b) (second_byte_max b) u) e h

pub text_of_char : (b : ℕ) (u : List ℕ) → is_lead b ≡ true → Follow (continuation_len b) (second_byte_min b) (second_byte_max b) u → IsScalarText (b ∷ u)
text_of_char b u lead f = elim (cases_lt b 128) [
  | inl a ↦ from_1 b u a lead (by_count b 0 u (cl_1 b a) f)
  | inr a ↦ long (lead_at_least b lead a) a
] where
  long : (194 ≤ b) × (b ≤ 244) → 128 ≤ b → IsScalarText (b ∷ u)
  long range a = elim (cases_lt b 224) [
    | inl d ↦ from_2 b u range.0 d (follow_suc 0 (second_byte_min b) (second_byte_max b) u (by_count b 1 u (cl_2 b a d) f))
    | inr d ↦ elim (cases_lt b 240) [
      | inl e ↦ from_3 b u d e (follow_suc 1 (second_byte_min b) (second_byte_max b) u (by_count b 2 u (cl_3 b d e) f))
      | inr e ↦ from_4 b u e range.1 (follow_suc 2 (second_byte_min b) (second_byte_max b) u (by_count b 3 u (cl_4 b e) f))
    ]
  ]
