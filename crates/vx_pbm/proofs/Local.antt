-- A raw image is read alike whatever follows it.
use Rattle.std.proofs.Common.{◌≡◌, ◌+◌, ◌*◌, ◌<◌, ◌≤◌, ◌==◌, ◌&&◌, ℕ, suc, Bool, true, false, not, cond, List, [], ◌∷◌, ◌++◌, length, take, drop, Ok, Err, nat_lt, nat_le, arith, refl, ap, sym, ◌∙◌, length-append, length-drop}
use Rattle.std.specs.Char.{is_ascii_digit}
use Rattle.std.specs.Str.Parse.{digits_value}
use Rattle.std.proofs.lemmas.Bool.{and_parts, ltb-true, ltb-false, le-ltb}
use Rattle.std.proofs.lemmas.List.{take-append-le, drop-append-le}
use Rattle.vx_plane.specs.Plane.{Page}
use Rattle.vx_bits.specs.Packed.{stride_of, packed_page}
use Rattle.vx_pbm.specs.declared.fault.PbmFault.{PbmFault}
use Rattle.vx_pbm.specs.declared.fault.PbmFault.TheVariants.{Truncated}
use Rattle.vx_pbm.specs.declared.header.Header.{Header}
use Rattle.vx_base.specs.Results.{◌>>=◌}
use Rattle.vx_pbm.specs.Header.{is_space, ends_comment, gap_size, digit_count, first_number, begins_with_space, gap_at, number_at, space_at, header_at}
use Rattle.vx_pbm.specs.Raster.{in_size, raw_raster, raw_image}
use Rattle.vx_base.proofs.Results.{bind_ok}
use Rattle.vx_pbm.proofs.Parts.{Parts, parts_of, header_of_parts}
use Rattle.vx_pbm.proofs.Walks.{sized_header}

one_choice : (t : Bool) (a b c d : ℕ) (limit : ℕ) → (cond t (a + 1) b < limit) → (a + 1 < limit → c ≡ a) → (b < limit → d ≡ b) → cond t (c + 1) d ≡ cond t (a + 1) b
one_choice true a b c d limit small first second = ap (λ n. n + 1) (first small)
one_choice false a b c d limit small first second = second small

-- where a gap ends within a text, it ends there in what continues the text
gap_local : (comment : Bool) (text rest : List ℕ) → gap_size comment text < length text → gap_size comment (text ++ rest) ≡ gap_size comment text
gap_local comment [] rest small = absurd (omega arith)
gap_local true (byte ∷ text) rest small = ap (λ n. n + 1) (gap_local (not (ends_comment byte)) text rest (omega arith))
gap_local false (byte ∷ text) rest small =
    one_choice (is_space byte) (gap_size false text) (cond (byte == 35) (gap_size true text + 1) 0) (gap_size false (text ++ rest)) (cond (byte == 35) (gap_size true (text ++ rest) + 1) 0) (suc (length text)) small
    (λ h. gap_local false text rest (omega arith))
    (λ h. one_choice (byte == 35) (gap_size true text) 0 (gap_size true (text ++ rest)) 0 (suc (length text)) h (λ k. gap_local true text rest (omega arith)) (λ k. refl))

digits_local : (text rest : List ℕ) → digit_count text < length text → digit_count (text ++ rest) ≡ digit_count text
digits_local [] rest small = absurd (omega arith)
digits_local (byte ∷ text) rest small =
    one_choice (is_ascii_digit byte) (digit_count text) 0 (digit_count (text ++ rest)) 0 (suc (length text)) small (λ h. digits_local text rest (omega arith)) (λ h. refl)

space_local : (text rest : List ℕ) → begins_with_space text ≡ true → begins_with_space (text ++ rest) ≡ true
space_local [] rest e = absurd cc
space_local (byte ∷ text) rest e = e

-- what a test let through
passed : {X : Type 0} (t : Bool) (x y : X) (offset : ℕ) → cond t (Ok x) (Err offset) ≡ Ok y → (t ≡ true) × (x ≡ y)
passed true x y offset e = (refl, cc)
passed false x y offset e = absurd cc

let_through : {X : Type 0} (t : Bool) (x : X) (offset : ℕ) → t ≡ true → cond t (Ok x) (Err offset) ≡ Ok x
let_through true x offset e = refl
let_through false x offset e = absurd cc

-- where a gap lies
pub record GapIs (text : List ℕ) (at end : ℕ) : Type 0 where
  pub some : nat_lt 0 (gap_size false (drop at text)) ≡ true
  pub is : at + gap_size false (drop at text) ≡ end

gap_is : (text : List ℕ) (at end : ℕ) → gap_at text at ≡ Ok end → GapIs text at end
unfolding gap_at
gap_is text at end e =
    let p = passed (nat_lt 0 (gap_size false (drop at text))) (at + gap_size false (drop at text)) end at e in
    record { some = p.0; is = p.1 }

gap_more : (text rest : List ℕ) (at end : ℕ) → gap_at text at ≡ Ok end → at ≤ length text → end < length text → gap_at (text ++ rest) at ≡ Ok end
unfolding gap_at
gap_more text rest at end e within small =
    let g : GapIs text at end = gap_is text at end e in
    let same : gap_size false (drop at (text ++ rest)) ≡ gap_size false (drop at text) =
    ap (gap_size false) (drop-append-le at text rest within) ∙ gap_local false (drop at text) rest (omega (arith, g.is, length-drop at text)) in
    let_through (nat_lt 0 (gap_size false (drop at (text ++ rest)))) (at + gap_size false (drop at (text ++ rest))) at (ap (nat_lt 0) same ∙ g.some)
    ∙ ap Ok (ap (λ n. at + n) same ∙ g.is)

-- where a number lies
pub record NumberIs (text : List ℕ) (at : ℕ) (found : ℕ × ℕ) : Type 0 where
  pub some : (nat_lt 0 (digit_count (drop at text)) && (nat_le (digit_count (drop at text)) 9 && nat_lt 0 (first_number (drop at text)))) ≡ true
  pub number : first_number (drop at text) ≡ found.0
  pub end : at + digit_count (drop at text) ≡ found.1

number_is : (text : List ℕ) (at : ℕ) (found : ℕ × ℕ) → number_at text at ≡ Ok found → NumberIs text at found
unfolding number_at
number_is text at found e =
    let p = passed (nat_lt 0 (digit_count (drop at text)) && (nat_le (digit_count (drop at text)) 9 && nat_lt 0 (first_number (drop at text)))) (first_number (drop at text), at + digit_count (drop at text)) found at e in
    record { some = p.0; number = ap (λ (pair : ℕ × ℕ). pair.0) p.1; end = ap (λ (pair : ℕ × ℕ). pair.1) p.1 }

number_more : (text rest : List ℕ) (at : ℕ) (found : ℕ × ℕ) → number_at text at ≡ Ok found → at ≤ length text → found.1 < length text → number_at (text ++ rest) at ≡ Ok found
unfolding number_at
number_more text rest at found e within small =
    let n : NumberIs text at found = number_is text at found e in
    let there : drop at (text ++ rest) ≡ drop at text ++ rest = drop-append-le at text rest within in
    let short : digit_count (drop at text) < length (drop at text) = omega (arith, n.end, length-drop at text) in
    let count : digit_count (drop at (text ++ rest)) ≡ digit_count (drop at text) = ap digit_count there ∙ digits_local (drop at text) rest short in
    let number : first_number (drop at (text ++ rest)) ≡ first_number (drop at text) =
    ap (λ k. digits_value 10 (take k (drop at (text ++ rest)))) count
    ∙ (ap (λ bytes. digits_value 10 (take (digit_count (drop at text)) bytes)) there
    ∙ ap (digits_value 10) (take-append-le (digit_count (drop at text)) (drop at text) rest (omega arith))) in
    ap (λ (k : ℕ). cond (nat_lt 0 k && (nat_le k 9 && nat_lt 0 (first_number (drop at (text ++ rest))))) (Ok (first_number (drop at (text ++ rest)), at + k)) (Err at)) count
    ∙ (ap (λ (v : ℕ). cond (nat_lt 0 (digit_count (drop at text)) && (nat_le (digit_count (drop at text)) 9 && nat_lt 0 v)) (Ok (v, at + digit_count (drop at text))) (Err at)) number
    ∙ e)

-- where the last whitespace byte of a header lies
pub record SpaceIs (text : List ℕ) (at size : ℕ) : Type 0 where
  pub space : begins_with_space (drop at text) ≡ true
  pub is : at + 1 ≡ size

space_is : (text : List ℕ) (at size : ℕ) → space_at text at ≡ Ok size → SpaceIs text at size
unfolding space_at
space_is text at size e =
    let p = passed (begins_with_space (drop at text)) (at + 1) size at e in
    record { space = p.0; is = p.1 }

space_more : (text rest : List ℕ) (at size : ℕ) → space_at text at ≡ Ok size → at ≤ length text → space_at (text ++ rest) at ≡ Ok size
unfolding space_at
space_more text rest at size e within =
    let s : SpaceIs text at size = space_is text at size e in
    let_through (begins_with_space (drop at (text ++ rest))) (at + 1) at (ap begins_with_space (drop-append-le at text rest within) ∙ space_local (drop at text) rest s.space)
    ∙ ap Ok s.is

some_bytes : (text : List ℕ) → begins_with_space text ≡ true → 0 < length text
some_bytes [] e = absurd cc
some_bytes (byte ∷ text) e = omega arith

-- a header is read alike whatever follows it
header_more : (text rest : List ℕ) (header : Header) → header_at text ≡ Ok header → header_at (text ++ rest) ≡ Ok header
header_more text rest header e =
    let p : Parts text header = parts_of text header e in
    let a : GapIs text 2 p.first_gap = gap_is text 2 p.first_gap p.first_gap_is in
    let b : NumberIs text p.first_gap p.width = number_is text p.first_gap p.width p.width_is in
    let c : GapIs text p.width.1 p.second_gap = gap_is text p.width.1 p.second_gap p.second_gap_is in
    let d : NumberIs text p.second_gap p.height = number_is text p.second_gap p.height p.height_is in
    let f : SpaceIs text p.height.1 p.size = space_is text p.height.1 p.size p.size_is in
    let last : p.height.1 < length text = omega (arith, some_bytes (drop p.height.1 text) f.space, length-drop p.height.1 text) in
    let digits : 0 < digit_count (drop p.second_gap text) = ltb-true 0 _ (and_parts _ _ d.some).0 in
    header_of_parts (text ++ rest) header (record {
      first_gap = p.first_gap;
      width = p.width;
      second_gap = p.second_gap;
      height = p.height;
      size = p.size;
      first_gap_is = gap_more text rest 2 p.first_gap p.first_gap_is (omega (arith, a.is, b.end, c.is, d.end)) (omega (arith, b.end, c.is, d.end));
      width_is = number_more text rest p.first_gap p.width p.width_is (omega (arith, b.end, c.is, d.end)) (omega (arith, c.is, d.end));
      second_gap_is = gap_more text rest p.width.1 p.second_gap p.second_gap_is (omega (arith, c.is, d.end)) (omega (arith, d.end));
      height_is = number_more text rest p.second_gap p.height p.height_is (omega (arith, d.end)) last;
      size_is = space_more text rest p.height.1 p.size p.size_is (omega arith);
      header_is = p.header_is;
    })

pub header_within : (text : List ℕ) (header : Header) → header_at text ≡ Ok header → header.size ≤ length text
header_within text header e =
    let p : Parts text header = parts_of text header e in
    let f : SpaceIs text p.height.1 p.size = space_is text p.height.1 p.size p.size_is in
    let size : header.size ≡ p.size = ap (λ (h : Header). h.size) p.header_is in
    omega (arith, some_bytes (drop p.height.1 text) f.space, length-drop p.height.1 text, f.is, size)

raster_passed : (t : Bool) (fault : PbmFault) (x y : Page × ℕ) → cond t (Err fault) (Ok x) ≡ Ok y → (t ≡ false) × (x ≡ y)
raster_passed true fault x y e = absurd cc
raster_passed false fault x y e = (refl, cc)

raster_let_through : (t : Bool) (fault : PbmFault) (x : Page × ℕ) → t ≡ false → cond t (Err fault) (Ok x) ≡ Ok x
raster_let_through true fault x e = absurd cc
raster_let_through false fault x e = refl

-- a raw raster that was found
pub record RasterIs (header : Header) (text : List ℕ) (found : Page × ℕ) : Type 0 where
  pub enough : header.height * stride_of header.width ≤ length (drop header.size text)
  pub is : (packed_page header.width header.height (take (header.height * stride_of header.width) (drop header.size text)), header.size + header.height * stride_of header.width) ≡ found

pub raster_is : (header : Header) (text : List ℕ) (found : Page × ℕ) → raw_raster header text ≡ Ok found → RasterIs header text found
unfolding raw_raster
raster_is header text found e =
    let p = raster_passed (nat_lt (length (drop header.size text)) (header.height * stride_of header.width)) (Truncated (length (drop header.size text)) (header.height * stride_of header.width)) (packed_page header.width header.height (take (header.height * stride_of header.width) (drop header.size text)), header.size + header.height * stride_of header.width) found e in
    record { enough = ltb-false _ _ p.0; is = p.1 }

raster_more : (header : Header) (text rest : List ℕ) (found : Page × ℕ) → header.size ≤ length text → raw_raster header text ≡ Ok found → raw_raster header (text ++ rest) ≡ Ok found
unfolding raw_raster
raster_more header text rest found within e =
    let r : RasterIs header text found = raster_is header text found e in
    let there : drop header.size (text ++ rest) ≡ drop header.size text ++ rest = drop-append-le header.size text rest within in
    let enough : header.height * stride_of header.width ≤ length (drop header.size (text ++ rest)) = omega (arith, r.enough, ap length there, length-append (drop header.size text) rest) in
    raster_let_through (nat_lt (length (drop header.size (text ++ rest))) (header.height * stride_of header.width)) _ _ (le-ltb _ _ enough)
    ∙ ap Ok (ap (λ (bytes : List ℕ). (packed_page header.width header.height bytes, header.size + header.height * stride_of header.width)) (ap (take (header.height * stride_of header.width)) there ∙ take-append-le (header.height * stride_of header.width) (drop header.size text) rest r.enough)
    ∙ r.is)

-- a raw image is read alike whatever follows it
pub raw_more : (at : ℕ) (text rest : List ℕ) (found : Page × ℕ) → raw_image at text ≡ Ok found → raw_image at (text ++ rest) ≡ Ok found
unfolding raw_image
raw_more at text rest found e =
    let a : (h : Header) × (in_size at (header_at text) ≡ Ok h) × (raw_raster h text ≡ Ok found) = bind_ok (in_size at (header_at text)) (λ header. raw_raster header text) found e in
    let read : header_at text ≡ Ok a.0 = sized_header at (header_at text) a.0 a.1 in
    ap (λ r. in_size at r >>= λ header. raw_raster header (text ++ rest)) (header_more text rest a.0 read)
    ∙ (ap (λ r. r >>= λ header. raw_raster header (text ++ rest)) (ap (in_size at) (sym read) ∙ a.1)
    ∙ raster_more a.0 text rest found (header_within text a.0 read) a.2)

-- and its bytes lie within the text
pub raw_within : (at : ℕ) (text : List ℕ) (found : Page × ℕ) → raw_image at text ≡ Ok found → found.1 ≤ length text
unfolding raw_image
raw_within at text found e =
    let a : (h : Header) × (in_size at (header_at text) ≡ Ok h) × (raw_raster h text ≡ Ok found) = bind_ok (in_size at (header_at text)) (λ header. raw_raster header text) found e in
    let r : RasterIs a.0 text found = raster_is a.0 text found a.2 in
    let size : a.0.size + a.0.height * stride_of a.0.width ≡ found.1 = ap (λ (pair : Page × ℕ). pair.1) r.is in
    omega (arith, size, r.enough, length-drop a.0.size text, header_within text a.0 (sized_header at (header_at text) a.0 a.1))
