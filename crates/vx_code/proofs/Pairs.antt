-- Pairs of boxes: what is printed for bits, and what counts show.
use Rattle.std.proofs.Common.{◌≡◌, ℕ, ◌+◌, ◌*◌, ◌^◌, ◌<◌, ◌∙◌, sym, ap, List, [], ◌∷◌, Bool, true, false, not, Option, Some, None, Ok, Err, is_none, IsSome, unwrap_or, map, position, length, take, slice_index, slice_index_or, zero, suc, refl, arith, append_assoc, add-one, slice_set}
use Rattle.std.specs.Int.{from_bool}
use Rattle.std.specs.List.{flat_map, position_or_len}
use Rattle.std.proofs.lemmas.Bool.Decides.{nat_tests}
use Rattle.std.proofs.lemmas.Grind.{flat_map-append}
use Rattle.std.proofs.lemmas.List.{take_more, take_more_set, map-append}
use Rattle.std.proofs.Math.Seq.{take-length}
use Rattle.std.proofs.Math.ListN.{length-set}
use Rattle.vx_base.proofs.Numbers.{below-yes, below-no}
use Rattle.vx_code.proofs.Numbers.{bits_of_number-more}
use Rattle.vx_code.specs.declared.code.CodeFault.TheVariants.{BadPair}
use Rattle.vx_code.specs.Bits.{bits_of_number}
use Rattle.vx_code.specs.Code.{pair_of, bit_of, shown_by, bits_unless, bits_shown_by, IsShown}

-- bits with the same boxes are the same
pub same_bits : (xs ys : List Bool) → flat_map pair_of xs ≡ flat_map pair_of ys → xs ≡ ys
same_bits [] [] e = refl
same_bits [] (y ∷ ys) e = cc
same_bits (x ∷ xs) [] e = cc
same_bits (x ∷ xs) (y ∷ ys) e =
    let first : x ≡ y = cc in
    let rest : flat_map pair_of xs ≡ flat_map pair_of ys = cc in
    let more = same_bits xs ys rest in cc

-- a printed pair shows its bit
bit_of_pair : (bit : Bool) (left right : ℕ) → IsShown (not bit) left → IsShown bit right → bit_of left right ≡ Some bit
bit_of_pair true left right l r = grind (arith, nat_tests)
bit_of_pair false left right l r = grind (arith, nat_tests)

pair_of_bit : (bit : Bool) (left right : ℕ) → bit_of left right ≡ Some bit → IsShown (not bit) left × IsShown bit right
pair_of_bit true left right e = grind (arith, nat_tests)
pair_of_bit false left right e = grind (arith, nat_tests)

-- counts that show the boxes of bits show those bits
pub shown_by-boxes : (bits : List Bool) (counts : List ℕ) → length counts ≡ 2 * length bits
    → ((box : ℕ) → box < 2 * length bits → IsShown (slice_index_or (flat_map pair_of bits) box false) (slice_index counts box))
    → shown_by counts ≡ map Some bits
unfolding shown_by
shown_by-boxes [] [] e each = refl
shown_by-boxes [] (count ∷ counts) e each = absurd (omega arith)
shown_by-boxes (bit ∷ bits) [] e each = absurd (omega arith)
shown_by-boxes (bit ∷ bits) (left ∷ []) e each = absurd (omega arith)
shown_by-boxes (bit ∷ bits) (left ∷ right ∷ counts) e each =
    let first : bit_of left right ≡ Some bit = bit_of_pair bit left right (each 0 (omega arith)) (each 1 (omega arith)) in
    let rest : shown_by counts ≡ map Some bits = shown_by-boxes bits counts (omega arith) (λ box h. each (suc (suc box)) (omega arith)) in
    rw (first, rest) refl

-- counts that show bits show the boxes of those bits
pub boxes-shown_by : (bits : List Bool) (counts : List ℕ) → length counts ≡ 2 * length bits → shown_by counts ≡ map Some bits
    → (box : ℕ) → box < 2 * length bits → IsShown (slice_index_or (flat_map pair_of bits) box false) (slice_index counts box)
unfolding shown_by
boxes-shown_by [] counts e shown box h = absurd (omega arith)
boxes-shown_by (bit ∷ bits) [] e shown box h = absurd (omega arith)
boxes-shown_by (bit ∷ bits) (left ∷ []) e shown box h = absurd (omega arith)
boxes-shown_by (bit ∷ bits) (left ∷ right ∷ counts) e shown zero h = let first : bit_of left right ≡ Some bit = cc in (pair_of_bit bit left right first).0
boxes-shown_by (bit ∷ bits) (left ∷ right ∷ counts) e shown (suc zero) h = let first : bit_of left right ≡ Some bit = cc in (pair_of_bit bit left right first).1
boxes-shown_by (bit ∷ bits) (left ∷ right ∷ counts) e shown (suc (suc box)) h =
    let rest : shown_by counts ≡ map Some bits = cc in boxes-shown_by bits counts (omega arith) rest box (omega arith)

unwrapped : (bits : List Bool) → map (λ bit. unwrap_or bit false) (map Some bits) ≡ bits
unwrapped [] = refl
unwrapped (bit ∷ bits) = ap (λ rest. bit ∷ rest) (unwrapped bits)

none_among : (bits : List Bool) → position_or_len is_none (map Some bits) ≡ length (map Some bits)
none_among [] = refl
none_among (bit ∷ bits) = let rest = none_among bits in omega arith

no_position : (bits : List Bool) → position is_none (map Some bits) ≡ None
no_position bits = rw (none_among bits, below-no (length (map Some bits)) (length (map Some bits)) (omega arith)) refl

-- the first of a list that is None
first_none : (xs : List (Option Bool)) (bits : List Bool) (n : ℕ) → length bits ≡ n → take n xs ≡ map Some bits → slice_index_or xs n (Some false) ≡ None
    → (position_or_len is_none xs ≡ n) × (n < length xs)
first_none [] bits zero e before here = cc
first_none (x ∷ xs) bits zero e before here = rw here (refl, omega arith)
first_none xs [] (suc n) e before here = absurd (omega arith)
first_none [] (bit ∷ bits) (suc n) e before here = cc
first_none (x ∷ xs) (bit ∷ bits) (suc n) e before here =
    let first : x ≡ Some bit = cc in
    let rest : take n xs ≡ map Some bits = cc in
    let more = first_none xs bits n (omega arith) rest here in
    rw first ((let p = more.0 in omega arith), (let q = more.1 in omega arith))

pub first_position : (xs : List (Option Bool)) (n : ℕ) → position_or_len is_none xs ≡ n → n < length xs → position is_none xs ≡ Some n
first_position xs n e h = rw (e, below-yes n (length xs) h) refl

-- bits that are all shown
pub bits_shown_by-all : (counts : List ℕ) (bits : List Bool) → shown_by counts ≡ map Some bits → bits_shown_by counts ≡ Ok bits
unfolding bits_shown_by
bits_shown_by-all counts bits e =
    let none : position is_none (shown_by counts) ≡ None = rw e (no_position bits) in
    let back : map (λ bit. unwrap_or bit false) (shown_by counts) ≡ bits = rw e (unwrapped bits) in
    ap (bits_unless counts) none ∙ ap Ok back

-- the first pair that is no bit
pub bits_shown_by-first : (counts : List ℕ) (bits : List Bool) (n : ℕ) → length bits ≡ n → take n (shown_by counts) ≡ map Some bits → slice_index_or (shown_by counts) n (Some false) ≡ None
    → bits_shown_by counts ≡ Err (BadPair n (slice_index counts (2 * n)) (slice_index counts (2 * n + 1)))
unfolding bits_shown_by
bits_shown_by-first counts bits n e before here =
    let first = first_none (shown_by counts) bits n e before here in
    ap (bits_unless counts) (first_position (shown_by counts) n first.0 first.1)

-- what a pair of counts shows
pub get-shown_by : (counts : List ℕ) (n : ℕ) → 2 * n + 1 < length counts → slice_index_or (shown_by counts) n (Some false) ≡ bit_of (slice_index counts (2 * n)) (slice_index counts (2 * n + 1))
unfolding shown_by
get-shown_by [] n h = absurd (omega arith)
get-shown_by (left ∷ []) n h = absurd (omega arith)
get-shown_by (left ∷ right ∷ counts) zero h = refl
get-shown_by (left ∷ right ∷ counts) (suc n) h =
    let even : 2 * suc n ≡ suc (suc (2 * n)) = omega arith in
    let odd : suc (suc (2 * n)) + 1 ≡ suc (suc (2 * n + 1)) = omega arith in
    rw (even, odd) (get-shown_by counts n (omega arith))

pub length-shown_by : (counts : List ℕ) (n : ℕ) → length counts ≡ 2 * n → length (shown_by counts) ≡ n
unfolding shown_by
length-shown_by [] n e = omega arith
length-shown_by (left ∷ []) n e = absurd (omega arith)
length-shown_by (left ∷ right ∷ counts) zero e = absurd (omega arith)
length-shown_by (left ∷ right ∷ counts) (suc n) e = ap suc (length-shown_by counts n (omega arith))

-- one pair more is printed
pub printed_more : (boxes bits : List Bool) (n : ℕ) (bit : Bool) → 2 * n + 1 < length boxes → n < length bits → bit ≡ slice_index_or bits n false
    → take (2 * n) boxes ≡ flat_map pair_of (take n bits)
    → take (2 * (n + 1)) (slice_set (slice_set boxes (2 * n) (not bit)) (2 * n + 1) bit) ≡ flat_map pair_of (take (n + 1) bits)
printed_more boxes bits n bit room within here printed =
    let left = slice_set boxes (2 * n) (not bit) in
    let twice : 2 * (n + 1) ≡ 2 * n + 1 + 1 = omega arith in
    let right_room : 2 * n + 1 < length left = rw length-set room in
    let left_room : 2 * n < length boxes = omega arith in
    rw (twice, take_more_set left (2 * n + 1) bit right_room, take_more_set boxes (2 * n) (not bit) left_room, printed, take_more bits n false within, flat_map-append, ← here)
    (append_assoc (flat_map pair_of (take n bits)) (not bit ∷ []) (bit ∷ []))

-- one pair more is read
pub read_more : (counts : List ℕ) (n number : ℕ) (bit : Bool) → 2 * n + 1 < length counts → n < length (shown_by counts)
    → bit_of (slice_index counts (2 * n)) (slice_index counts (2 * n + 1)) ≡ Some bit
    → take n (shown_by counts) ≡ map Some (bits_of_number n number)
    → take (n + 1) (shown_by counts) ≡ map Some (bits_of_number (n + 1) (number * 2 + from_bool bit))
read_more counts n number bit room within here shown =
    let e : slice_index_or (shown_by counts) n (Some false) ≡ Some bit = get-shown_by counts n room ∙ here in
    rw (take_more (shown_by counts) n (Some false) within, e, shown, add-one, bits_of_number-more n number bit, map-append)
    refl

-- the boxes of all bits
pub all_printed : (boxes bits : List Bool) (n : ℕ) → length boxes ≡ 2 * n → length bits ≡ n → take (2 * n) boxes ≡ flat_map pair_of (take n bits) → boxes ≡ flat_map pair_of bits
all_printed boxes bits n size width printed =
    sym (ap (λ k. take k boxes) (sym size) ∙ take-length boxes) ∙ printed ∙ ap (flat_map pair_of) (ap (λ k. take k bits) (sym width) ∙ take-length bits)

-- all pairs are read
pub all_read : (counts : List ℕ) (n number width : ℕ) → n ≡ width → length (shown_by counts) ≡ width → number < 2 ^ n → take n (shown_by counts) ≡ map Some (bits_of_number n number)
    → (number < 2 ^ width) × (shown_by counts ≡ map Some (bits_of_number width number))
all_read counts n number width e size fits shown =
    let here = rw e at shown in
    ((rw (← e) fits), sym (ap (λ k. take k (shown_by counts)) (sym size) ∙ take-length (shown_by counts)) ∙ here)

-- the first None of a list, by its index
pub first_none_at : (xs : List (Option Bool)) (n : ℕ) → n < length xs → slice_index_or xs n (Some false) ≡ None
    → ((m : ℕ) → m < n → IsSome (slice_index_or xs m (Some false)))
    → position_or_len is_none xs ≡ n
first_none_at [] n within here earlier = absurd (omega arith)
first_none_at (x ∷ xs) zero within here earlier = rw here refl
first_none_at (None ∷ xs) (suc n) within here earlier = let no : IsSome {T = Bool} None = earlier 0 (omega arith) in cc
first_none_at (Some bit ∷ xs) (suc n) within here earlier =
    let rest = first_none_at xs n (omega arith) here (λ m h. earlier (suc m) (omega arith)) in omega arith
