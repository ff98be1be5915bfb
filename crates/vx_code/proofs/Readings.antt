-- What counts show, and the codes that they give.
use Rattle.std.proofs.Common.{◌≡◌, ◌≢◌, ℕ, ◌+◌, ◌*◌, ◌<◌, ◌==◌, ◌↔◌, ◌∙◌, sym, ap, subst, List, Bool, true, false, if◌then◌else◌, Option, Some, None, IsSome, is_none, Result, Ok, Err, map, position, length, slice_index, slice_index_or, refl, arith}
use Rattle.std.proofs.lemmas.List.Quantifiers.{position-Some}
use Rattle.std.proofs.lemmas.Bool.Decides.{nat_tests}
use Rattle.vx_grid.specs.declared.paper.Paper.{Paper}
use Rattle.vx_code.specs.declared.code.PageCode.{PageCode}
use Rattle.vx_code.specs.declared.code.CodeFault.{CodeFault}
use Rattle.vx_code.specs.declared.code.CodeFault.TheVariants.{BadPair, BadVersion}
use Rattle.vx_code.specs.Code.{IsInRange, Shows, bits_of, boxes_of, shown_by, bit_of, bits_unless, IsFirstBad, bits_shown_by, code_of_bits, version_of, code_of_shown, code_shown_by}
use Rattle.vx_code.proofs.Fields.{length-bits_of, code_of_bits-bits_of, bits_of-code_of_bits}
use Rattle.vx_code.proofs.Pairs.{shown_by-boxes, boxes-shown_by, bits_shown_by-all, first_none_at, first_position, get-shown_by, length-shown_by}

-- bits that are shown, of the paper's version
pub code_shown_by-good : (paper : Paper) (counts : List ℕ) (bits : List Bool) → shown_by counts ≡ map Some bits → (code_of_bits bits).version ≡ version_of paper → code_shown_by paper counts ≡ Ok (code_of_bits bits)
unfolding code_shown_by
code_shown_by-good paper counts bits shown one =
    let test : ((code_of_bits bits).version == version_of paper) ≡ true = grind (arith, nat_tests) in
    ap (code_of_shown paper) (bits_shown_by-all counts bits shown) ∙ rw test refl

-- bits that are shown, of another version
pub code_shown_by-version : (paper : Paper) (counts : List ℕ) (bits : List Bool) → shown_by counts ≡ map Some bits → (code_of_bits bits).version ≢ version_of paper → code_shown_by paper counts ≡ Err (BadVersion (code_of_bits bits).version)
unfolding code_shown_by
code_shown_by-version paper counts bits shown other =
    let test : ((code_of_bits bits).version == version_of paper) ≡ false = grind (arith, nat_tests) in
    ap (code_of_shown paper) (bits_shown_by-all counts bits shown) ∙ rw test refl

-- a pair that is no bit
pub code_shown_by-bad : (paper : Paper) (counts : List ℕ) (fault : CodeFault) → bits_shown_by counts ≡ Err fault → code_shown_by paper counts ≡ Err fault
unfolding code_shown_by
code_shown_by-bad paper counts fault bad = ap (code_of_shown paper) bad

-- counts that show the boxes of a code show its bits
shown_by-boxes_of : (counts : List ℕ) (code : PageCode) → length counts ≡ 84 → Shows counts (boxes_of code) → shown_by counts ≡ map Some (bits_of code)
unfolding boxes_of
shown_by-boxes_of counts code size shows =
    let bits : length (bits_of code) ≡ 42 = length-bits_of code in
    shown_by-boxes (bits_of code) counts (omega arith) (λ box h. shows.each box (omega arith))

-- the boxes of a code give it back
pub code_shown_by-boxes_of : (paper : Paper) (counts : List ℕ) (code : PageCode) → length counts ≡ 84 → IsInRange code → code.version ≡ version_of paper → Shows counts (boxes_of code) → code_shown_by paper counts ≡ Ok code
code_shown_by-boxes_of paper counts code size fits one shows =
    let back : code_of_bits (bits_of code) ≡ code = code_of_bits-bits_of code fits in
    code_shown_by-good paper counts (bits_of code) (shown_by-boxes_of counts code size shows) (rw back one) ∙ ap Ok back

-- the boxes of a code of another version are refused with it
pub code_shown_by-other : (paper : Paper) (counts : List ℕ) (code : PageCode) → length counts ≡ 84 → IsInRange code → code.version ≢ version_of paper → Shows counts (boxes_of code) → code_shown_by paper counts ≡ Err (BadVersion code.version)
code_shown_by-other paper counts code size fits other shows =
    let back : code_of_bits (bits_of code) ≡ code = code_of_bits-bits_of code fits in
    code_shown_by-version paper counts (bits_of code) (shown_by-boxes_of counts code size shows) (rw back other)
    ∙ ap (λ (x : PageCode). Err (BadVersion x.version)) back

-- counts show the boxes of the code that they give
pub Shows-code_of_bits : (counts : List ℕ) (bits : List Bool) → length counts ≡ 84 → length bits ≡ 42 → shown_by counts ≡ map Some bits → Shows counts (boxes_of (code_of_bits bits))
unfolding boxes_of
Shows-code_of_bits counts bits size width shown =
    record { each = λ box h. rw (bits_of-code_of_bits bits width) (boxes-shown_by bits counts (omega arith) shown box (omega arith)) }

no_pair : (version_is_one : Bool) (code : PageCode) (version n left right : ℕ) →
    (if version_is_one then Ok code else Err (BadVersion version)) ≡ Err (BadPair n left right) → ⊥
no_pair true code version n left right e = cc
no_pair false code version n left right e = cc

is_none-true : (bit : Option Bool) → is_none bit ≡ true → bit ≡ None
is_none-true None e = refl
is_none-true (Some bit) e = cc

is_none-false : (bit : Option Bool) → is_none bit ≡ false → IsSome bit
is_none-false None e = cc
is_none-false (Some bit) e = refl

-- the bit of two counts that are equal to others
same_bit : (left right other_left other_right : ℕ) → left ≡ other_left → right ≡ other_right → bit_of left right ≡ bit_of other_left other_right
same_bit left right other_left other_right e f = ap (λ l. bit_of l right) e ∙ ap (λ r. bit_of other_left r) f

first_bad_at : (counts : List ℕ) (n left right : ℕ) → length counts ≡ 84 → position is_none (shown_by counts) ≡ Some n
    → left ≡ slice_index counts (2 * n) → right ≡ slice_index counts (2 * n + 1) → IsFirstBad counts n left right
first_bad_at counts n left right size at left_is right_is =
    let here = position-Some is_none (shown_by counts) n (Some false) at in
    let many : length (shown_by counts) ≡ 42 = length-shown_by counts 42 (omega arith) in
    let stands : n < 42 = (let p = here.0 in omega arith) in
    record {
      stands = stands;
      left_count = left_is;
      right_count = right_is;
      is_no_bit = same_bit left right _ _ left_is right_is ∙ sym (get-shown_by counts n (omega arith)) ∙ is_none-true _ here.1;
      earlier = λ m h. subst (λ bit. IsSome bit) (get-shown_by counts m (omega arith)) (is_none-false _ (here.2 m h));
    }

first_bad_from : (paper : Paper) (counts : List ℕ) (place : Option ℕ) (n left right : ℕ) → length counts ≡ 84 → position is_none (shown_by counts) ≡ place
    → code_of_shown paper (bits_unless counts place) ≡ Err (BadPair n left right) → IsFirstBad counts n left right
first_bad_from paper counts None n left right size at e = absurd (no_pair _ _ _ _ _ _ e)
first_bad_from paper counts (Some place) n left right size at e =
    let same : place ≡ n = cc in
    let first : slice_index counts (2 * place) ≡ left = cc in
    let second : slice_index counts (2 * place + 1) ≡ right = cc in
    first_bad_at counts n left right size (at ∙ ap Some same)
    (sym first ∙ ap (λ k. slice_index counts (2 * k)) same)
    (sym second ∙ ap (λ k. slice_index counts (2 * k + 1)) same)

first_bad_to : (paper : Paper) (counts : List ℕ) (n left right : ℕ) → length counts ≡ 84 → IsFirstBad counts n left right → code_of_shown paper (bits_unless counts (position is_none (shown_by counts))) ≡ Err (BadPair n left right)
first_bad_to paper counts n left right size bad =
    let many : length (shown_by counts) ≡ 42 = length-shown_by counts 42 (omega arith) in
    let stands : n < 42 = bad.stands in
    let none : slice_index_or (shown_by counts) n (Some false) ≡ None =
    get-shown_by counts n (omega arith) ∙ sym (same_bit left right _ _ bad.left_count bad.right_count) ∙ bad.is_no_bit in
    let earlier : (m : ℕ) → m < n → IsSome (slice_index_or (shown_by counts) m (Some false)) =
    λ m h. subst (λ bit. IsSome bit) (sym (get-shown_by counts m (omega arith))) (bad.earlier m h) in
    let at : position is_none (shown_by counts) ≡ Some n =
    first_position (shown_by counts) n (first_none_at (shown_by counts) n (omega arith) none earlier) (omega arith) in
    ap (λ place. code_of_shown paper (bits_unless counts place)) at
    ∙ ap (λ l. Err (BadPair n l (slice_index counts (2 * n + 1)))) (sym bad.left_count)
    ∙ ap (λ r. Err (BadPair n left r)) (sym bad.right_count)

-- the first pair that is no bit is what is refused, and nothing else is refused so
pub code_shown_by-BadPair : (paper : Paper) (counts : List ℕ) (result : Result PageCode CodeFault) → length counts ≡ 84 → result ≡ code_shown_by paper counts
    → (n left right : ℕ) → (result ≡ Err (BadPair n left right)) ↔ IsFirstBad counts n left right
unfolding code_shown_by bits_shown_by
code_shown_by-BadPair paper counts result size is n left right = (
  λ e. first_bad_from paper counts (position is_none (shown_by counts)) n left right size refl (sym is ∙ e),
  λ bad. is ∙ first_bad_to paper counts n left right size bad,
)

-- a first pair that is no bit is refused
pub code_shown_by-no_bit : (paper : Paper) (counts : List ℕ) → length counts ≡ 84 → bit_of (slice_index counts 0) (slice_index counts 1) ≡ None
    → code_shown_by paper counts ≡ Err (BadPair 0 (slice_index counts 0) (slice_index counts 1))
unfolding code_shown_by bits_shown_by
code_shown_by-no_bit paper counts size none =
    first_bad_to paper counts 0 (slice_index counts 0) (slice_index counts 1) size
    (record { stands = omega arith; left_count = refl; right_count = refl; is_no_bit = none; earlier = λ m h. absurd (omega (arith, h)) })
