-- How a row of a scan comes of the packed rows of its paper.
use Rattle.std.proofs.Common.{◌≡◌, ℕ, ◌+◌, ◌-◌, ◌*◌, ◌/◌, ◌%◌, ◌<◌, ◌≤◌, ◌==◌, cond, nat_lt, Bool, true, false, List, take, drop, length, get_or, set, pos, nat_abs, ◌+ℤ◌, ◌-ℤ◌, ◌≤ℤ◌, ap, ap₂, sym, ◌∙◌, inl, inr, arith, length-set, get_or-set_other, get_or-take, get_or-drop}
use Rattle.std.specs.Int.{bit_at}
use Rattle.std.specs.Int.RustNames.{bit_xor}
use Rattle.std.proofs.lemmas.Int.{ints}
use Rattle.std.proofs.lemmas.Bool.{cases_lt, cases_eq}
use Rattle.std.proofs.lemmas.List.{get_or_default}
use Rattle.vx_plane.specs.Plane.{Pixels, Page, page_of, dark_at}
use Rattle.vx_plane.proofs.Pages.{page_of-same, dark_at-inside}
use Rattle.vx_bits.specs.Packed.{stride_of, packed_pixel, packed_pixels, packed_page}
use Rattle.vx_geom.specs.declared.shear.Shear.{Shear}
use Rattle.vx_geom.specs.Slants.{Slant, slant_of, down_by, right_by, paper_column, paper_row}
use Rattle.vx_geom.specs.Seen.{seen}
use Rattle.vx_margin.specs.Flips.{differ}
use Rattle.vx_simulate.specs.Lie.{IsShort}
use Rattle.vx_simulate.specs.declared.strips.Strip.{Strip}
use Rattle.vx_simulate.specs.Rows.{row_in, AreStrips, ShowsRow}
use Rattle.vx_simulate.proofs.Bytes.{changed-bit, written-here, written-elsewhere}
use Rattle.vx_simulate.proofs.Columns.{short-right}

abbrev no_strip : Strip
no_strip = record { row = 0; bits = 0 }

-- the first k bytes of a row of the paper, each column moved as row v of a scan shows it
pub record IsSlanted (rows : List ℕ) (strips : List Strip) (v k : ℕ) (row : List ℕ) : Type 0 where
  pub size : length row ≡ 264
  pub pixels : (x : ℕ) → x < 8 * k → packed_pixel row 0 x ≡ packed_pixel rows ((v + row_in strips x) * 264) x

-- the first k bytes of a row of a scan are changed where another row is dark, from a column on
pub record IsChanged (before row : List ℕ) (from k : ℕ) (now : List ℕ) : Type 0 where
  pub size : length now ≡ 225
  pub done : (x : ℕ) → x < 8 * k → packed_pixel now 0 x ≡ differ (packed_pixel before 0 x) (packed_pixel row 0 (from + x))
  pub rest : (b : ℕ) → k ≤ b → get_or now b 0 ≡ get_or before b 0

-- the bits of a row from a column on
moved-bit : (row : List ℕ) (from k x : ℕ) → x / 8 ≡ k
    → cond (nat_lt (from % 8 + x % 8) 8) (bit_at (get_or row (from / 8 + k) 0) (7 - (from % 8 + x % 8))) (bit_at (get_or row (from / 8 + k + 1) 0) (15 - (from % 8 + x % 8)))
    ≡ bit_at (get_or row (0 + (from + x) / 8) 0) (7 - (from + x) % 8)
moved-bit row from k x here =
    elim (cases_lt (from % 8 + x % 8) 8) [
      | inl inside ↦
          let is : nat_lt (from % 8 + x % 8) 8 ≡ true = grind arith in
          let byte : from / 8 + k ≡ 0 + (from + x) / 8 = omega (arith, here, inside) in
          let bit : 7 - (from % 8 + x % 8) ≡ 7 - (from + x) % 8 = omega (arith, inside) in
          ap (λ (b : Bool). cond b (bit_at (get_or row (from / 8 + k) 0) (7 - (from % 8 + x % 8))) (bit_at (get_or row (from / 8 + k + 1) 0) (15 - (from % 8 + x % 8)))) is
          ∙ ap₂ (λ i j. bit_at (get_or row i 0) j) byte bit
      | inr past ↦
          let is : nat_lt (from % 8 + x % 8) 8 ≡ false = grind arith in
          let byte : from / 8 + k + 1 ≡ 0 + (from + x) / 8 = omega (arith, here, past) in
          let bit : 15 - (from % 8 + x % 8) ≡ 7 - (from + x) % 8 = omega (arith, past) in
          ap (λ (b : Bool). cond b (bit_at (get_or row (from / 8 + k) 0) (7 - (from % 8 + x % 8))) (bit_at (get_or row (from / 8 + k + 1) 0) (15 - (from % 8 + x % 8)))) is
          ∙ ap₂ (λ i j. bit_at (get_or row i 0) j) byte bit
    ]

pub changed-more : (before row now : List ℕ) (from k eight : ℕ) → IsChanged before row from k now → k < 225
    → ((i : ℕ) → i < 8 → bit_at eight (7 - i) ≡ cond (nat_lt (from % 8 + i) 8)
    (bit_at (get_or row (from / 8 + k) 0) (7 - (from % 8 + i))) (bit_at (get_or row (from / 8 + k + 1) 0) (15 - (from % 8 + i))))
    → IsChanged before row from (k + 1) (set now k (bit_xor (get_or now k 0) eight))
changed-more before row now from k eight is within bits = record {
  size = length-set now k (bit_xor (get_or now k 0) eight) ∙ is.size;
  done = λ x h. elim (cases_eq (x / 8) k) [
    | inl here ↦
        let place : k ≡ 0 + x / 8 = omega (arith, here) in
        written-here now k x (bit_xor (get_or now k 0) eight) (omega (arith, within, is.size)) here
        ∙ changed-bit (get_or now k 0) eight (7 - x % 8)
        ∙ ap₂ differ
        (ap (λ b. bit_at b (7 - x % 8) == 1) (is.rest k (omega arith) ∙ ap (λ i. get_or before i 0) place))
        (ap (λ (n : ℕ). n == 1) (bits (x % 8) (omega arith) ∙ moved-bit row from k x here))
    | inr other ↦ written-elsewhere now k x (bit_xor (get_or now k 0) eight) other ∙ is.done x (omega (arith, other, h))
  ];
  rest = λ b h. get_or-set_other now k b (bit_xor (get_or now k 0) eight) 0 (λ same. absurd (omega (arith, same, h))) ∙ is.rest b (omega (arith, h));
}

-- a pixel of a row of a scan, by the rows of its paper
pub row-shown : (s : Slant) (rows slanted old new : List ℕ) (strips : List Strip) (v from : ℕ) → from < 312 → pos from ≡ pos 160 -ℤ right_by s (pos v)
    → ((x : ℕ) → x < 2112 → packed_pixel slanted 0 x ≡ packed_pixel rows ((v + row_in strips x) * 264) x)
    → ((u : ℕ) → u < 1800 → packed_pixel new 0 u ≡ differ (packed_pixel old 0 u) (packed_pixel slanted 0 (from + u)))
    → ShowsRow s rows strips v old new
row-shown s rows slanted old new strips v from few is moved changed = λ u x inside at.
    let place : from + u ≡ x = omega (arith, ints, is, at) in
    changed u inside
    ∙ ap (differ (packed_pixel old 0 u)) (moved (from + u) (omega (arith, few, inside)) ∙ ap (λ w. packed_pixel rows ((v + row_in strips w) * 264) w) place)

-- rows that hold the paper in its margins
pub record HoldPaper (rows : List ℕ) (paper : Pixels) (height : ℕ) : Type 0 where
  pub pixels : (x y : ℕ) → x < 2112 → y < height → packed_pixel rows (y * 264) x ≡ paper (pos x -ℤ pos 160) (pos y -ℤ pos 136)

-- what a row of a scan shows of the paper
pub row-seen : (shear : Shear) (paper : Pixels) (rows old new : List ℕ) (strips : List Strip) (v u height : ℕ) → IsShort shear → HoldPaper rows paper height
    → AreStrips (slant_of shear) strips → v + 272 ≤ height → v < 2840 → u < 1800 → ShowsRow (slant_of shear) rows strips v old new
    → packed_pixel new 0 u ≡ differ (packed_pixel old 0 u) (seen (slant_of shear) paper (pos u) (pos v))
row-seen shear paper rows old new strips v u height short hold are low few inside shows =
    let s : Slant = slant_of shear in
    let right = short-right shear (pos v) short (record { low = omega (arith, ints); high = omega (arith, ints) }) in
    let x : ℕ = nat_abs (pos 160 +ℤ paper_column s (pos u) (pos v)) in
    let from : pos 0 ≤ℤ (pos 160 +ℤ paper_column s (pos u) (pos v)) = omega (arith, ints, right.high) in
    let is : pos x ≡ pos 160 +ℤ paper_column s (pos u) (pos v) = omega (arith, ints, from) in
    let column : x < 2112 = omega (arith, ints, is, right.low, inside) in
    let below : row_in strips x < 272 = are.few x column in
    let across : pos x -ℤ pos 160 ≡ paper_column s (pos u) (pos v) = omega (arith, ints, is) in
    let shown_row : pos (row_in strips x) ≡ pos 136 -ℤ down_by s (paper_column s (pos u) (pos v)) =
    are.rows x column ∙ ap (λ z. pos 136 -ℤ down_by s z) across in
    let down : pos (v + row_in strips x) -ℤ pos 136 ≡ paper_row s (pos u) (pos v) = omega (arith, ints, shown_row) in
    shows u x inside is
    ∙ ap (differ (packed_pixel old 0 u)) (hold.pixels x (v + row_in strips x) column (omega (arith, below, low)) ∙ ap₂ paper across down)

-- a row of packed rows is its chunk
pub chunk-pixel : (bytes : List ℕ) (v u : ℕ) → u < 1800 → packed_pixel (take 225 (drop (v * 225) bytes)) 0 u ≡ packed_pixel bytes (v * 225) u
chunk-pixel bytes v u inside =
    let place : 0 + u / 8 ≡ u / 8 = omega arith in
    ap (λ b. bit_at b (7 - u % 8) == 1) (
    ap (λ i. get_or (take 225 (drop (v * 225) bytes)) i 0) place
    ∙ get_or-take 225 (drop (v * 225) bytes) (u / 8) 0 (omega (arith, inside))
    ∙ get_or-drop (v * 225) bytes (u / 8) 0)

-- rows that are shown so make the scan
pub sheared-page : (shear : Shear) (paper flips : Page) (rows before after : List ℕ) (strips : List Strip) → IsShort shear → HoldPaper rows (dark_at paper) (paper.height + 312)
    → AreStrips (slant_of shear) strips → flips.width ≡ 1800 → flips.height ≤ paper.height + 40 → paper.height ≤ 2800 → packed_page flips.width flips.height before ≡ flips
    → ((v : ℕ) → v < flips.height → ShowsRow (slant_of shear) rows strips v (take 225 (drop (v * 225) before)) (take 225 (drop (v * 225) after)))
    → packed_page flips.width flips.height after ≡ page_of flips.width flips.height (λ u v. differ (dark_at flips u v) (seen (slant_of shear) (dark_at paper) u v))
sheared-page shear paper flips rows before after strips short hold are wide high low is shows =
    page_of-same flips.width flips.height _ (λ u v. differ (dark_at flips u v) (seen (slant_of shear) (dark_at paper) u v)) (λ u v few less.
    let size : stride_of flips.width ≡ 225 = ap stride_of wide in
    let inside : u < 1800 = omega (arith, wide, few) in
    let place : v * stride_of flips.width ≡ v * 225 = ap (λ n. v * n) size in
    let flip : packed_pixel before (v * 225) u ≡ dark_at flips (pos u) (pos v) =
    ap (λ n. packed_pixel before n u) (sym place)
    ∙ sym (dark_at-inside flips.width flips.height u v (packed_pixels flips.width before) few less)
    ∙ ap (λ (p : Page). dark_at p (pos u) (pos v)) is in
    ap (λ n. packed_pixel after n u) place
    ∙ sym (chunk-pixel after v u inside)
    ∙ row-seen shear (dark_at paper) rows (take 225 (drop (v * 225) before)) (take 225 (drop (v * 225) after)) strips v u (paper.height + 312) short hold are
    (omega (arith, less, high)) (omega (arith, less, high, low)) inside (shows v less)
    ∙ ap (λ (b : Bool). differ b (seen (slant_of shear) (dark_at paper) (pos u) (pos v))) (chunk-pixel before v u inside ∙ flip))

-- no strip begins far down
pub strips-few : (s : Slant) (strips : List Strip) (k : ℕ) (d : Strip) → AreStrips s strips → k < length strips → (get_or strips k d).row < 272
strips-few s strips k d are few =
    let below : row_in strips (8 * k) < 272 = are.few (8 * k) (omega (arith, few, are.all)) in
    let place : 8 * k / 8 ≡ k = omega arith in
    let same : get_or strips (8 * k / 8) no_strip ≡ get_or strips k d = ap (λ i. get_or strips i no_strip) place ∙ get_or_default strips k no_strip d few in
    let row : (get_or strips (8 * k / 8) no_strip).row ≡ (get_or strips k d).row = ap (λ (t : Strip). t.row) same in
    omega (arith, below, row)

-- a row that is shown, by what the code knows of it
pub shows-at : (s : Slant) (rows : List ℕ) (strips : List Strip) (w v : ℕ) (a b c d : List ℕ) → ShowsRow s rows strips w a b → w ≡ v → a ≡ c → b ≡ d → ShowsRow s rows strips v c d
shows-at s rows strips w v a b c d shows at old new = λ u x few is.
    ap (λ l. packed_pixel l 0 u) (sym new)
    ∙ shows u x few (is ∙ ap (λ n. pos 160 +ℤ paper_column s (pos u) (pos n)) (sym at))
    ∙ ap₂ differ (ap (λ l. packed_pixel l 0 u) old) (ap (λ n. packed_pixel rows ((n + row_in strips x) * 264) x) at)

-- a page of packed rows, by what the code knows of it
pub page-at : (result : Page) (w h width height : ℕ) (whole rows : List ℕ) → result ≡ packed_page w h whole → w ≡ width → h ≡ height → whole ≡ rows → result ≡ packed_page width height rows
page-at result w h width height whole rows is across down all =
    is ∙ ap₂ (λ m n. packed_page m n whole) across down ∙ ap (packed_page width height) all
