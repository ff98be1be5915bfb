-- The page code: 42 bits that are printed as 42 pairs of boxes. This project's own code.
use Rattle.std.specs.Prelude.{◌≡◌, ℕ, ◌+◌, ◌*◌, ◌/◌, ◌%◌, ◌^◌, ◌<◌, ◌≤◌, ◌==◌, ◌&&◌, List, [], ◌∷◌, Bool, true, false, not, Option, Some, None, Result, Ok, Err, is_none, IsSome, length, unwrap_or, map, position, take, slice_index, slice_index_or, nat_le, if◌then◌else◌}
use Rattle.std.specs.Int.{from_bool}
use Rattle.std.specs.List.{flat_map, zip}
use Rattle.vx_grid.specs.declared.paper.Paper.{Paper}
use Rattle.vx_grid.specs.declared.paper.Paper.TheVariants.{Letter, Legal}
use Rattle.vx_grid.specs.Grid.{first_code_row, first_reserved_row}
use Rattle.vx_grid.specs.declared.kind.Kind.{Kind}
use Rattle.vx_grid.specs.declared.kind.Kind.TheVariants.{Precinct, Absentee, Provisional, Other}
use Rattle.vx_code.specs.declared.code.PageCode.{PageCode}
use Rattle.vx_code.specs.declared.code.CodeFault.{CodeFault}
use Rattle.vx_code.specs.declared.code.CodeFault.TheVariants.{BadPair, BadVersion}
use Rattle.vx_code.specs.Bits.{bits_of_number, number_of_bits, bits_of_fields, values_of_bits}

-- the fields of a code are as large as their bits allow
pub record IsInRange (code : PageCode) : Type 0 where
  pub version_fits : code.version < 8
  pub card_fits : code.card < 1024
  pub page_fits : code.page < 64
  pub tag_fits : code.tag < 2 ^ 20

-- the number that is printed for a kind
abbrev pub number_of_kind : Kind → ℕ
number_of_kind Precinct = 0
number_of_kind Absentee = 1
number_of_kind Provisional = 2
number_of_kind Other = 3

-- the kind that a number of two bits is printed for
abbrev pub kind_of_number : ℕ → Kind
kind_of_number n =
    if n == 0 then Precinct else if n == 1 then Absentee else if n == 2 then Provisional else Other

-- the widths in bits of version, test flag, kind, card, page and tag: 42 bits
abbrev pub widths : List ℕ
widths = 3 ∷ 1 ∷ 2 ∷ 10 ∷ 6 ∷ 20 ∷ []

-- the values of those fields
abbrev pub values_of : PageCode → List ℕ
values_of code =
    code.version ∷ from_bool code.test ∷ number_of_kind code.kind ∷ code.card ∷ code.page ∷ code.tag ∷ []

-- the code whose fields have six values
abbrev pub code_of_values : List ℕ → PageCode
code_of_values values = record {
  version = slice_index values 0;
  test = slice_index values 1 == 1;
  kind = kind_of_number (slice_index values 2);
  card = slice_index values 3;
  page = slice_index values 4;
  tag = slice_index values 5;
}

-- the 42 bits of a code, the most significant first
unfoldable pub bits_of : PageCode → List Bool
bits_of code = bits_of_fields (zip widths (values_of code))

-- the 42 bits of a code as a number
unfoldable pub number_of : PageCode → ℕ
number_of code = number_of_bits (bits_of code)

-- the pair of boxes that is printed for a bit: the left one for 0, the right one for 1
abbrev pub pair_of : Bool → List Bool
pair_of bit = not bit ∷ bit ∷ []

-- which of the 84 boxes are printed for a code, pair after pair
unfoldable pub boxes_of : PageCode → List Bool
boxes_of code = flat_map pair_of (bits_of code)

-- the bit that the dark pixels of a left box and of a right box show, if they show one: a box is
-- dark from 400 on and blank up to 160
abbrev pub bit_of : ℕ → ℕ → Option Bool
bit_of left right =
    if nat_le 400 left && nat_le right 160 then Some false
    else if nat_le left 160 && nat_le 400 right then Some true
    else None

-- what the pairs of a list of counts show
unfoldable pub shown_by : List ℕ → List (Option Bool)
shown_by (left ∷ right ∷ rest) = bit_of left right ∷ shown_by rest
shown_by _ = []

-- the code of 42 bits
unfoldable pub code_of_bits : List Bool → PageCode
code_of_bits bits = code_of_values (values_of_bits widths bits)

-- the bits of counts, where there is no first pair that is no bit
abbrev pub bits_unless : List ℕ → Option ℕ → Result (List Bool) CodeFault
bits_unless counts None = Ok (map (λ bit. unwrap_or bit false) (shown_by counts))
bits_unless counts (Some n) = Err (BadPair n (slice_index counts (2 * n)) (slice_index counts (2 * n + 1)))

-- the bits that counts show, or the first pair that is no bit
unfoldable pub bits_shown_by : List ℕ → Result (List Bool) CodeFault
bits_shown_by counts = bits_unless counts (position is_none (shown_by counts))

-- the version that is printed on each paper
abbrev pub version_of : Paper → ℕ
version_of Letter = 1
version_of Legal = 2

-- the code, where its version is that of the paper
abbrev pub of_version : Paper → PageCode → Result PageCode CodeFault
of_version paper code = if code.version == version_of paper then Ok code else Err (BadVersion code.version)

-- the code of bits that are shown
abbrev pub code_of_shown : Paper → Result (List Bool) CodeFault → Result PageCode CodeFault
code_of_shown paper (Ok bits) = of_version paper (code_of_bits bits)
code_of_shown paper (Err fault) = Err fault

-- the code that 84 counts show on a page of a paper, or the first fault
unfoldable pub code_shown_by : Paper → List ℕ → Result PageCode CodeFault
code_shown_by paper counts = code_of_shown paper (bits_shown_by counts)

-- a pair is the first that is no bit, with its two counts
pub record IsFirstBad (counts : List ℕ) (n left right : ℕ) : Type 0 where
  pub stands : n < 42
  pub left_count : left ≡ slice_index counts (2 * n)
  pub right_count : right ≡ slice_index counts (2 * n + 1)
  pub is_no_bit : bit_of left right ≡ None
  pub earlier : (m : ℕ) → m < n → IsSome (bit_of (slice_index counts (2 * m)) (slice_index counts (2 * m + 1)))

-- the count of a box that is printed, or of one that isn't
abbrev pub IsShown : Bool → ℕ → Type 0
IsShown true count = 400 ≤ count
IsShown false count = count ≤ 160

-- the counts show these boxes
pub record Shows (counts : List ℕ) (boxes : List Bool) : Type 0 where
  pub each : (box : ℕ) → box < 84 → IsShown (slice_index_or boxes box false) (slice_index counts box)

-- the first 20 bits of a digest, as a number
unfoldable pub tag_of : List ℕ → ℕ
tag_of digest = number_of_bits (take 20 (flat_map (bits_of_number 8) digest))

-- the tag of any digest has at most 20 bits
abbrev pub TagsAreInRange : Type 0
TagsAreInRange = (digest : List ℕ) → tag_of digest < 2 ^ 20

-- the grid column and row of a box, 14 pairs a row from column 3 on, where row 0 of the boxes is this
-- grid row
abbrev pub place_from : ℕ → ℕ → ℕ × ℕ
place_from first box = let pair = box / 2 in (3 + 2 * (pair % 14) + box % 2, first + pair / 14)

-- where a box is printed
abbrev pub place_of_box : Paper → ℕ → ℕ × ℕ
place_of_box paper box = place_from (first_code_row paper) box

-- where it is seen on a page that is turned by 180 degrees, but for its order: the reserved rows
abbrev pub reserved_place : ℕ → ℕ × ℕ
reserved_place box = place_from first_reserved_row box

-- counts that show the boxes of a code of the paper's version give that code back
abbrev pub CodesAreGivenBack : Type 0
CodesAreGivenBack =
    (paper : Paper) (counts : List ℕ) (code : PageCode) → length counts ≡ 84 → IsInRange code
    → code.version ≡ version_of paper → Shows counts (boxes_of code) → code_shown_by paper counts ≡ Ok code

-- where the first two counts show no bit, no code is shown
abbrev pub NoBitIsRefused : Type 0
NoBitIsRefused =
    (paper : Paper) (counts : List ℕ) → length counts ≡ 84
    → bit_of (slice_index counts 0) (slice_index counts 1) ≡ None
    → code_shown_by paper counts ≡ Err (BadPair 0 (slice_index counts 0) (slice_index counts 1))

-- counts that show a code show its boxes, and its fields are as large as their bits allow
abbrev pub ReadCodesAreShown : Type 0
ReadCodesAreShown =
    (paper : Paper) (counts : List ℕ) (code : PageCode) → length counts ≡ 84
    → code_shown_by paper counts ≡ Ok code → IsInRange code × Shows counts (boxes_of code)
