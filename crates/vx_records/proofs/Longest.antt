-- From parts to the law: what is read, and the longest front of what isn't.
use Rattle.std.proofs.Common.{◌≡◌, ℕ, zero, suc, ◌+◌, ◌-◌, ◌≤◌, ◌<◌, Bool, true, false, List, [], ◌∷◌, ◌++◌, length, take, drop, refl, ap, sym, subst, ◌∙◌, inl, inr, arith, length-append, length-drop, append-nil, append_assoc}
use Rattle.std.specs.Prelude.{Result, Ok, Err}
use Rattle.std.proofs.lemmas.List.{take-append-drop, length-take-le}
use Rattle.vx_base.proofs.Lists.{take-front}
use Rattle.vx_records.specs.Parts.{Found, Read, found}
use Rattle.vx_records.specs.Records.{record_of}
use Rattle.vx_records.specs.Held.{IsHeld}
use Rattle.vx_records.specs.Reading.{value_in, record_in, event_in, header_in, digest_in}
use Rattle.vx_records.specs.Laws.{IsBegun, IsNone, IsLongest, AreRead, RecordsAreRead, RefusalsAreSmall, IsDigest, header_text, HeadersAreRead}
use Rattle.hex.specs.Hex.{encode_lower}
use Rattle.vx_records.proofs.HexParts.{header_part, some_header, header_length}
use Rattle.vx_records.proofs.Grammar.{Part, Splits, Begins, Some_text, StopsAt, StopsAt-none, none}
use Rattle.vx_records.proofs.Steps.{Spelled}
use Rattle.vx_records.proofs.RecordParts.{record_part, some_record}

module _ {A : Type 0} (held : A → Type 0) (spell : A → List ℕ) (p : List ℕ → Read A) (part : Part (Spelled held spell) none p) (some : Some_text (Spelled held spell)) where
  whole_text : (v : A) → held v → p (spell v) ≡ found v []
  whole_text v h = ap p (sym (append-nil (spell v))) ∙ part.whole v (spell v) [] (record { is = h; text = refl }) tt

  given_back : (v : A) → held v → value_in (spell v) (p (spell v)) ≡ Ok v
  given_back v h = ap (value_in (spell v)) (whole_text v h)

  alone_at : (body : List ℕ) (v : A) (r : Read A) → p body ≡ r → value_in body r ≡ Ok v → held v × (spell v ≡ body)
  alone_at body v (Ok x) e h =
      let one = part.only body x.value x.rest e in
      let same : x.value ≡ v = cc (h) in
      let text : body ≡ spell x.value = one.text ∙ ap (λ (t : List ℕ). one.u ++ t) (StopsAt-none x.rest one.stops) ∙ append-nil one.u ∙ one.is.text in
      (subst held same one.is.is, sym (text ∙ ap spell same))
  alone_at body v (Err n) e h = absurd cc

  -- no value has the text
  not_there : (body : List ℕ) (left : ℕ) → p body ≡ Err left → IsNone held spell body
  not_there body left e v h t =
      let there : p body ≡ found v [] = ap p (sym t) ∙ whole_text v h in
      cc

  begun_front : (body : List ℕ) (left : ℕ) → Begins (Spelled held spell) body left → IsBegun held spell (take (length body - left) body)
  begun_front body left h =
      let size : length h.front ≡ length body - left = omega (arith, h.left_is, ap (length {A = ℕ}) h.text, length-append h.front h.rest) in
      let front : take (length body - left) body ≡ h.front = ap (take (length body - left)) h.text ∙ take-front h.front h.rest (length body - left) size in
      record { value = h.value; is = h.is.is; more = h.more; text = ap (λ (t : List ℕ). t ++ h.more) front ∙ h.is.text }

  longest_front : (body : List ℕ) (left : ℕ) → p body ≡ Err left → (k : ℕ) → k ≤ length body → IsBegun held spell (take k body) → k ≤ length body - left
  longest_front body left e k inside h =
      let most = part.most body left e (take k body) (drop k body) h.more h.value (sym (take-append-drop k body)) (record { is = h.is; text = h.text }) in
      omega (arith, most, inside, length-drop k body)

  longest : (body : List ℕ) (left : ℕ) → p body ≡ Err left → IsLongest held spell body (length body - left)
  longest body left e = record {
    within = omega arith;
    begun = begun_front body left (part.begun body left e some.b some.w some.is);
    longest = λ k inside h. longest_front body left e k inside h;
  }

  refused_at : (body : List ℕ) (at : ℕ) (r : Read A) → p body ≡ r → value_in body r ≡ Err at → IsNone held spell body × IsLongest held spell body at
  refused_at body at (Ok x) e h = absurd cc
  refused_at body at (Err left) e h =
      let same : length body - left ≡ at = cc (h) in
      (not_there body left e, subst (IsLongest held spell body) same (longest body left e))

  longest_one : (body : List ℕ) (m n : ℕ) → IsLongest held spell body m → IsLongest held spell body n → m ≡ n
  longest_one body m n h k =
      let a = k.longest m h.within h.begun in
      let b = h.longest n k.within k.begun in
      omega (arith, a, b)

  exactly_at : (body : List ℕ) (at : ℕ) (r : Read A) → p body ≡ r → IsNone held spell body → IsLongest held spell body at → value_in body r ≡ Err at
  exactly_at body at (Ok x) e never h =
      let one = alone_at body x.value (Ok x) e refl in
      absurd (never x.value one.0 one.1)
  exactly_at body at (Err left) e never h = ap (λ (n : ℕ). Err n) (longest_one body (length body - left) at (longest body left e) h)

  pub are_read : AreRead held spell (λ body. value_in body (p body))
  are_read = record {
    given_back = λ v h. given_back v h;
    alone = λ body v h. alone_at body v (p body) refl h;
    refused = λ body at h. refused_at body at (p body) refl h;
    exactly = λ body at n h. exactly_at body at (p body) refl n h;
  }

pub records_are_read : RecordsAreRead
unfolding event_in
records_are_read = are_read IsHeld record_of record_in record_part some_record

small_at : (body : List ℕ) (at : ℕ) → IsLongest IsHeld record_of body at → at ≤ 16384
small_at body at h =
    let b = h.begun in
    let size = ap (length {A = ℕ}) b.text in
    omega (arith, b.is.short, size, length-append (take at body) b.more, length-take-le at body h.within)

pub refusals_are_small : RefusalsAreSmall
refusals_are_small body at h = small_at body at (records_are_read.refused body at h).1

pub left_is_small : (body : List ℕ) (left : ℕ) → record_in body ≡ Err left → length body - left ≤ 16384
unfolding event_in
left_is_small body left h = refusals_are_small body (length body - left) (ap (value_in body) h)

pub headers_are_read : HeadersAreRead
unfolding digest_in
headers_are_read = are_read IsDigest header_text header_in header_part some_header

header_small_at : (body : List ℕ) (at : ℕ) → IsLongest IsDigest header_text body at → at ≤ 76
header_small_at body at h =
    let b = h.begun in
    let size = ap (length {A = ℕ}) b.text in
    omega (arith, header_length b.value b.is, size, length-append (take at body) b.more, length-take-le at body h.within)

pub header_left_is_small : (body : List ℕ) (left : ℕ) → header_in body ≡ Err left → length body - left ≤ 76
unfolding digest_in
header_left_is_small body left h =
    header_small_at body (length body - left) (headers_are_read.refused body (length body - left) (ap (value_in body) h)).1
