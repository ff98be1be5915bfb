-- Records are read back, nothing else is read, and a refusal tells the longest front of the bytes
-- that some record has as its own front.
use Rattle.std.specs.Prelude.{◌≡◌, ◌≤◌, ℕ, ◌&&◌, ◌==◌, Bool, true, List, ◌∷◌, [], ◌++◌, length, take, nat_lt, codes, Result, Ok, Err}
use Rattle.std.specs.List.{list_all}
use Rattle.hex.specs.Hex.{encode_lower}
use Rattle.vx_events.specs.declared.event.Event.{Event}
use Rattle.vx_records.specs.Records.{record_of, record_with}
use Rattle.vx_records.specs.Held.{IsHeld}
use Rattle.vx_records.specs.Reading.{event_in, digest_in}

-- some value's text begins with this front
pub record IsBegun {A : Type 0} (held : A → Type 0) (spell : A → List ℕ) (front : List ℕ) : Type 0 where
  pub value : A
  pub is : held value
  pub more : List ℕ
  pub text : front ++ more ≡ spell value

-- no value has this text
abbrev pub IsNone : {A : Type 0} → (A → Type 0) → (A → List ℕ) → List ℕ → Type 0
IsNone {A} held spell body = (value : A) → held value → spell value ≡ body → ⊥

-- so many of the bytes are the longest front that begins some value's text
pub record IsLongest {A : Type 0} (held : A → Type 0) (spell : A → List ℕ) (body : List ℕ) (at : ℕ) : Type 0 where
  pub within : at ≤ length body
  pub begun : IsBegun held spell (take at body)
  pub longest : (k : ℕ) → k ≤ length body → IsBegun held spell (take k body) → k ≤ at

-- each value's text is read as the value, only those are read, and any other text is answered with
-- the length of its longest front that begins one
pub record AreRead {A : Type 0} (held : A → Type 0) (spell : A → List ℕ) (reading : List ℕ → Result A ℕ) : Type 0 where
  pub given_back : (value : A) → held value → reading (spell value) ≡ Ok value
  pub alone : (body : List ℕ) (value : A) → reading body ≡ Ok value → held value × (spell value ≡ body)
  pub refused : (body : List ℕ) (at : ℕ) → reading body ≡ Err at → IsNone held spell body × IsLongest held spell body at
  pub exactly : (body : List ℕ) (at : ℕ) → IsNone held spell body → IsLongest held spell body at → reading body ≡ Err at

-- the records of held events
abbrev pub RecordsAreRead : Type 0
RecordsAreRead = AreRead IsHeld record_of event_in

-- 32 bytes
pub record IsDigest (digest : List ℕ) : Type 0 where
  pub size : length digest ≡ 32
  pub bytes : list_all (λ byte. nat_lt byte 256) digest ≡ true

-- the header that names a digest
abbrev pub header_text : List ℕ → List ℕ
header_text digest = record_with (codes "election" ∷ encode_lower digest ∷ [])

-- the headers of digests
abbrev pub HeadersAreRead : Type 0
HeadersAreRead = AreRead IsDigest header_text digest_in

-- what begins a record has at most 16,384 bytes
abbrev pub RefusalsAreSmall : Type 0
RefusalsAreSmall = (body : List ℕ) (at : ℕ) → event_in body ≡ Err at → at ≤ 16384
