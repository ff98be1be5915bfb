-- What is written of a page is read as that page.
use Rattle.std.proofs.Common.{◌≡◌, ◌+◌, ◌*◌, ◌<◌, ◌≤◌, ◌==◌, ◌&&◌, ◌||◌, ◌^◌, ℕ, Bool, true, false, cond, List, [], ◌∷◌, ◌++◌, length, take, drop, None, Ok, Err, nat_lt, nat_le, arith, refl, ap, sym, ◌∙◌, length-append, length-drop, append_assoc}
use Rattle.std.specs.Char.{digit_value, is_ascii_digit}
use Rattle.std.specs.Fmt.{decimal}
use Rattle.std.specs.Str.Parse.{digits_value, AllDigits}
use Rattle.std.proofs.lemmas.Bool.{le-leb, lt-leb, lt-ltb, le-ltb, ne_eqb}
use Rattle.std.proofs.lemmas.Fmt.{decimal_is_IsNumeral, length-decimal-le}
use Rattle.std.proofs.lemmas.List.{drop_at, take_at, take_all, drop-drop}
use Rattle.std.proofs.lemmas.Str.Parse.{digit_from_value}
use Rattle.vx_plane.specs.Plane.{Page}
use Rattle.vx_bits.specs.Packed.{stride_of, packed_page, raster_of, RasterLaws}
use Rattle.vx_pbm.specs.declared.header.Header.{Header}
use Rattle.vx_pbm.specs.declared.fault.PbmFault.TheVariants.{SizeTooLarge, Truncated}
use Rattle.vx_base.specs.Results.{◌>>=◌}
use Rattle.vx_pbm.specs.Header.{is_space, gap_size, digit_count, first_number, begins_with_space, gap_at, number_at, space_at, header_at}
use Rattle.vx_pbm.specs.Raster.{in_size, raw_raster, raw_image, is_raw}
use Rattle.vx_pbm.specs.Raw.{p4_of}
use Rattle.vx_pbm.specs.Images.{whole, unread_from, with_page, ended, images_left, images_of, IsWholePage}
use Rattle.vx_pbm.proofs.Parts.{header_of_parts}
use Rattle.vx_pbm.proofs.Steps.{next_raw, next_end}
use Rattle.vx_pbm.proofs.Walks.{walks_page, walks_end}

-- the digits of a number above 0
pub record Digits (n : ℕ) (digits : List ℕ) : Type 0 where
  pub all : AllDigits 10 digits
  pub some : 0 < length digits
  pub few : length digits ≤ 9
  pub value : digits_value 10 digits ≡ n
  pub above : 0 < n

digits_of_side : (n : ℕ) → 0 < n → n ≤ 4096 → Digits n (decimal n)
digits_of_side n above below =
    let small : n < 2 ^ 64 = omega arith in
    let numeral = decimal_is_IsNumeral n small in
    record {
      all = numeral.0.1;
      some = numeral.0.0;
      few = length-decimal-le 9 n (omega arith) (omega arith) small;
      value = numeral.1;
      above = above;
    }

is_digit : (byte : ℕ) → digit_value byte < 10 → is_ascii_digit byte ≡ true
is_digit byte small =
    let range = digit_from_value byte small in
    let low : nat_le 48 byte ≡ true = le-leb 48 byte range.0 in
    let high : nat_le byte 57 ≡ true = le-leb byte 57 range.1 in
    ap (λ t. t && nat_le byte 57) low ∙ high

counted : (digits rest : List ℕ) (byte : ℕ) → AllDigits 10 digits → is_ascii_digit byte ≡ false → digit_count (digits ++ byte ∷ rest) ≡ length digits
counted [] rest byte all other = ap (λ t. cond t (digit_count rest + 1) 0) other
counted (digit ∷ digits) rest byte all other =
    ap (λ t. cond t (digit_count (digits ++ byte ∷ rest) + 1) 0) (is_digit digit all.0)
    ∙ omega (arith, counted digits rest byte all.1 other)

not_a_gap : (t u : Bool) (a b : ℕ) → t ≡ false → u ≡ false → cond t a (cond u b 0) ≡ 0
not_a_gap t u a b e f = rw (e, f) refl

both_no : (t u v : Bool) → t ≡ false → v ≡ false → (t || (u && v)) ≡ false
both_no t true v e f = rw (e, f) refl
both_no t false v e f = rw e refl

no_space : (byte : ℕ) → 48 ≤ byte → is_space byte ≡ false
no_space byte low = both_no (byte == 32) (nat_le 9 byte) (nat_le byte 13) (ne_eqb byte 32 (λ e. omega arith)) (lt-leb byte 13 (omega arith))

no_gap : (digits rest : List ℕ) → AllDigits 10 digits → 0 < length digits → gap_size false (digits ++ rest) ≡ 0
no_gap [] rest all some = absurd (omega arith)
no_gap (digit ∷ digits) rest all some =
    let range = digit_from_value digit all.0 in
    let low : 48 ≤ digit = range.0 in
    not_a_gap (is_space digit) (digit == 35) (gap_size false (digits ++ rest) + 1) (gap_size true (digits ++ rest) + 1) (no_space digit low) (ne_eqb digit 35 (λ e. omega arith))

one_space : (byte : ℕ) (rest : List ℕ) → is_space byte ≡ true → gap_size false (byte ∷ rest) ≡ gap_size false rest + 1
one_space byte rest space = ap (λ t. cond t (gap_size false rest + 1) (cond (byte == 35) (gap_size true rest + 1) 0)) space

-- one whitespace byte before digits is a gap
gap_there : (text digits rest : List ℕ) (at byte : ℕ) → drop at text ≡ byte ∷ (digits ++ rest) → is_space byte ≡ true → AllDigits 10 digits → 0 < length digits → gap_at text at ≡ Ok (at + 1)
unfolding gap_at
gap_there text digits rest at byte there space all some =
    let size : gap_size false (drop at text) ≡ 1 = ap (gap_size false) there ∙ (one_space byte (digits ++ rest) space ∙ ap (λ n. n + 1) (no_gap digits rest all some)) in
    ap (λ n. cond (nat_lt 0 n) (Ok (at + n)) (Err at)) size

let_by : {X : Type 0} (t u v : Bool) (x y : X) → t ≡ true → u ≡ true → v ≡ true → cond (t && (u && v)) x y ≡ x
let_by t u v x y a b c = rw (a, b, c) refl

-- digits and then something else are their number
number_there : (text digits rest : List ℕ) (at n byte : ℕ) → drop at text ≡ digits ++ byte ∷ rest → Digits n digits → is_ascii_digit byte ≡ false → number_at text at ≡ Ok (n, at + length digits)
unfolding number_at
number_there text digits rest at n byte there spelled other =
    let count : digit_count (drop at text) ≡ length digits = ap digit_count there ∙ counted digits rest byte spelled.all other in
    let number : first_number (drop at text) ≡ n =
    ap (λ k. digits_value 10 (take k (drop at text))) count
    ∙ (ap (λ bytes. digits_value 10 (take (length digits) bytes)) there
    ∙ (ap (digits_value 10) (take_at digits (byte ∷ rest) (length digits) refl)
    ∙ spelled.value)) in
    let_by (nat_lt 0 (digit_count (drop at text))) (nat_le (digit_count (drop at text)) 9) (nat_lt 0 (first_number (drop at text))) (Ok (first_number (drop at text), at + digit_count (drop at text))) (Err at)
    (ap (nat_lt 0) count ∙ lt-ltb 0 (length digits) spelled.some)
    (ap (λ k. nat_le k 9) count ∙ le-leb (length digits) 9 spelled.few)
    (ap (nat_lt 0) number ∙ lt-ltb 0 n spelled.above)
    ∙ (ap (λ (v : ℕ). Ok (v, at + digit_count (drop at text))) number
    ∙ ap (λ (k : ℕ). Ok (n, at + k)) count)

space_there : (text rest : List ℕ) (at byte : ℕ) → drop at text ≡ byte ∷ rest → is_space byte ≡ true → space_at text at ≡ Ok (at + 1)
unfolding space_at
space_there text rest at byte there space =
    ap (λ t. cond t (Ok (at + 1)) (Err at)) (ap begins_with_space there ∙ space)

dropped_on : (n at : ℕ) (text front rest : List ℕ) → drop at text ≡ front ++ rest → length front ≡ n → drop (at + n) text ≡ rest
dropped_on n at text front rest there long = sym (drop-drop n at text) ∙ (ap (drop n) there ∙ drop_at front rest n long)

-- a text of a raw image in this spelling
abbrev spelled_text : List ℕ → List ℕ → List ℕ → List ℕ
spelled_text width height raster = 80 ∷ 52 ∷ 10 ∷ (width ++ 32 ∷ (height ++ 10 ∷ raster))

abbrev spelled_size : List ℕ → List ℕ → ℕ
spelled_size width height = 3 + length width + 1 + length height + 1

-- and its header
pub record SpelledHeader (w h : ℕ) (width height raster : List ℕ) : Type 0 where
  pub read : header_at (spelled_text width height raster) ≡ Ok (record { width = w; height = h; size = spelled_size width height })
  pub rest : drop (spelled_size width height) (spelled_text width height raster) ≡ raster

spelled_header : (w h : ℕ) (width height raster : List ℕ) → Digits w width → Digits h height → SpelledHeader w h width height raster
spelled_header w h width height raster a b =
    let text : List ℕ = spelled_text width height raster in
    let second : drop (3 + length width) (spelled_text width height raster) ≡ 32 ∷ (height ++ 10 ∷ raster) = dropped_on (length width) 3 (spelled_text width height raster) width (32 ∷ (height ++ 10 ∷ raster)) refl refl in
    let third : drop (3 + length width + 1) (spelled_text width height raster) ≡ height ++ 10 ∷ raster = dropped_on 1 (3 + length width) (spelled_text width height raster) (32 ∷ []) (height ++ 10 ∷ raster) second refl in
    let fourth : drop (3 + length width + 1 + length height) (spelled_text width height raster) ≡ 10 ∷ raster = dropped_on (length height) (3 + length width + 1) (spelled_text width height raster) height (10 ∷ raster) third refl in
    record {
      read = header_of_parts (spelled_text width height raster) (record { width = w; height = h; size = spelled_size width height }) (record {
        first_gap = 3;
        width = (w, 3 + length width);
        second_gap = 3 + length width + 1;
        height = (h, 3 + length width + 1 + length height);
        size = spelled_size width height;
        first_gap_is = gap_there (spelled_text width height raster) width (32 ∷ (height ++ 10 ∷ raster)) 2 10 refl refl a.all a.some;
        width_is = number_there (spelled_text width height raster) width (height ++ 10 ∷ raster) 3 w 32 refl a refl;
        second_gap_is = gap_there (spelled_text width height raster) height (10 ∷ raster) (3 + length width) 32 second refl b.all b.some;
        height_is = number_there (spelled_text width height raster) height raster (3 + length width + 1) h 10 third b refl;
        size_is = space_there (spelled_text width height raster) raster (3 + length width + 1 + length height) 10 fourth refl;
        header_is = refl;
      });
      rest = dropped_on 1 (3 + length width + 1 + length height) (spelled_text width height raster) (10 ∷ []) raster fourth refl;
    }

sized_test : (w h size : ℕ) → w ≤ 4096 → h ≤ 4096 → in_size 0 (Ok (record { width = w; height = h; size = size })) ≡ Ok (record { width = w; height = h; size = size })
sized_test w h size a b =
    let header : Header = record { width = w; height = h; size = size } in
    ap (λ t. cond (t && nat_le h 4096) (Ok header) (Err (SizeTooLarge w h))) (le-leb w 4096 a)
    ∙ ap (λ t. cond t (Ok header) (Err (SizeTooLarge w h))) (le-leb h 4096 b)

raster_there : (header : Header) (text raster : List ℕ) → drop header.size text ≡ raster → length raster ≡ header.height * stride_of header.width → raw_raster header text ≡ Ok (packed_page header.width header.height raster, header.size + header.height * stride_of header.width)
unfolding raw_raster
raster_there header text raster there long =
    let need : ℕ = header.height * stride_of header.width in
    let long_too : length (drop header.size text) ≡ header.height * stride_of header.width = ap length there ∙ long in
    ap (λ t. cond t (Err (Truncated (length (drop header.size text)) (header.height * stride_of header.width))) (Ok (packed_page header.width header.height (take (header.height * stride_of header.width) (drop header.size text)), header.size + header.height * stride_of header.width))) (le-ltb (length (drop header.size text)) (header.height * stride_of header.width) (omega (arith, long_too)))
    ∙ ap (λ (bytes : List ℕ). Ok (packed_page header.width header.height bytes, header.size + header.height * stride_of header.width)) (take_all (header.height * stride_of header.width) (drop header.size text) (omega (arith, long_too)) ∙ there)

-- a raw image in this spelling
pub spelled_image : (w h : ℕ) (width height raster : List ℕ) → Digits w width → Digits h height → w ≤ 4096 → h ≤ 4096 → length raster ≡ h * stride_of w → raw_image 0 (spelled_text width height raster) ≡ Ok (packed_page w h raster, spelled_size width height + h * stride_of w)
unfolding raw_image
spelled_image w h width height raster a b small_w small_h long =
    let header : Header = record { width = w; height = h; size = spelled_size width height } in
    let s : SpelledHeader w h width height raster = spelled_header w h width height raster a b in
    ap (λ r. in_size 0 r >>= λ header. raw_raster header (spelled_text width height raster)) s.read
    ∙ (ap (λ r. r >>= λ header. raw_raster header (spelled_text width height raster)) (sized_test w h (spelled_size width height) small_w small_h)
    ∙ raster_there (record { width = w; height = h; size = spelled_size width height }) (spelled_text width height raster) raster s.rest long)

regrouped : (width height raster : List ℕ) → ((width ++ 32 ∷ height) ++ 10 ∷ []) ++ raster ≡ width ++ 32 ∷ (height ++ 10 ∷ raster)
regrouped width height raster =
    append_assoc (width ++ 32 ∷ height) (10 ∷ []) raster ∙ append_assoc width (32 ∷ height) (10 ∷ raster)

p4_spelled : (page : Page) → p4_of page ≡ spelled_text (decimal page.width) (decimal page.height) (raster_of page)
unfolding p4_of
p4_spelled page = ap (λ bytes. 80 ∷ 52 ∷ 10 ∷ bytes) (regrouped (decimal page.width) (decimal page.height) (raster_of page))

spelled_length : (width height raster : List ℕ) → length (spelled_text width height raster) ≡ spelled_size width height + length raster
spelled_length width height raster = omega (arith, length-append width (32 ∷ (height ++ 10 ∷ raster)), length-append height (10 ∷ raster))

-- one raw image and nothing behind it
alone : (page : Page) (text : List ℕ) (size : ℕ) → is_raw text ≡ true → 2 ≤ length text → raw_image 0 text ≡ Ok (page, size) → length text ≡ size → images_left (whole text) ≡ with_page page (ended None)
alone page text size raw room read long =
    walks_page (whole text) (unread_from text (0 + size) false) page (next_raw text page 0 size raw (omega arith) read)
    ∙ ap (with_page page) (walks_end (unread_from text (0 + size) false) (next_end text (0 + size) false refl (omega (arith, length-drop (0 + size) text, long))))

-- what is written of a page is read as that page alone
pub reads_back : RasterLaws → (page : Page) → IsWholePage page → images_of (p4_of page) ≡ with_page page (ended None)
unfolding images_of
reads_back laws page is =
    let width : List ℕ = decimal page.width in
    let height : List ℕ = decimal page.height in
    let raster : List ℕ = raster_of page in
    let long : length (raster_of page) ≡ page.height * stride_of page.width = laws.size page is.whole in
    let read : raw_image 0 (spelled_text (decimal page.width) (decimal page.height) (raster_of page)) ≡ Ok (packed_page page.width page.height (raster_of page), spelled_size (decimal page.width) (decimal page.height) + page.height * stride_of page.width) =
    spelled_image page.width page.height (decimal page.width) (decimal page.height) (raster_of page)
    (digits_of_side page.width is.sized.width_above is.sized.width_below) (digits_of_side page.height is.sized.height_above is.sized.height_below)
    is.sized.width_below is.sized.height_below long in
    ap (λ text. images_left (whole text)) (p4_spelled page)
    ∙ (alone (packed_page page.width page.height (raster_of page)) (spelled_text (decimal page.width) (decimal page.height) (raster_of page)) (spelled_size (decimal page.width) (decimal page.height) + page.height * stride_of page.width) refl (omega arith) read
    (omega (arith, spelled_length (decimal page.width) (decimal page.height) (raster_of page), long))
    ∙ ap (λ p. with_page p (ended None)) (laws.shows page is.whole))
