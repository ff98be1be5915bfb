-- Laws of the runs of dots in a column.
use Rattle.std.proofs.Common.{◌≡◌, ℕ, zero, suc, ◌+◌, ◌-◌, ◌*◌, ◌/◌, ◌%◌, ◌^◌, ◌==◌, ◌<◌, ◌≤◌, ⊎_elim, Bool, false, cond, ◌||◌, ℤ, pos, w32, div-le_self, ap, ap₂, sym, ◌∙◌, arith}
use Rattle.std.proofs.Math.Bool.{or-false, or_assoc}
use Rattle.std.specs.Int.{bit_at, trailing_zeros, trailing_ones}
use Rattle.std.proofs.lemmas.Bool.{cases_lt}
use Rattle.std.proofs.lemmas.Int.{ints}
use Rattle.std.proofs.lemmas.Nat.{shr-shr}
use Rattle.std.proofs.lemmas.Nat.Bits.{bit_at-zero, bit_at_above, bit_at-trailing_zeros, bit_at-trailing_ones}
use Rattle.vx_plane.specs.Plane.{Pixels, Page, rectangle, nowhere, union, painted, in_any}
use Rattle.vx_plane.proofs.Pages.{painted-same, painted-union}
use Rattle.vx_raster.specs.Dots.{bit_pixels, IsFirstRun}

-- a bit of a number that is shifted down
bit_at-shr : (n k i : ℕ) → bit_at (n / 2 ^ k) i ≡ bit_at n (k + i)
bit_at-shr n k i = ap (λ (m : ℕ). m % 2) (shr-shr n k i)

no_bit_is_two : {P : Type 0} (b : ℕ) → b ≡ 0 → b ≡ 1 → P
no_bit_is_two b zero_bit one_bit = absurd (omega arith)

-- light dots, the first dark one above them, and the dark ones up to a light one are the first run
first_run : (n light dark : ℕ) → n < 2 ^ 7 → bit_at n light ≡ 1 → ((i : ℕ) → i < light → bit_at n i ≡ 0) → bit_at (n / 2 ^ light) dark ≡ 0 → ((i : ℕ) → i < dark → bit_at (n / 2 ^ light) i ≡ 1) → IsFirstRun n light dark
first_run n light dark seven begins lights ends ones =
    let darks : (i : ℕ) → i < dark → bit_at n (light + i) ≡ 1 = λ i h. sym (bit_at-shr n light i) ∙ ones i h in
    let some : 0 < dark =
    ⊎_elim (λ (h : 0 < dark). h)
    (λ (h : dark ≤ 0).
    let e : light + dark ≡ light = omega arith in
    no_bit_is_two (bit_at (n / 2 ^ light) dark) ends (bit_at-shr n light dark ∙ ap (λ i. bit_at n i) e ∙ begins))
    (cases_lt 0 dark) in
    let within : light + dark ≤ 7 =
    ⊎_elim (λ (h : 7 < light + dark).
    no_bit_is_two (bit_at n (light + (dark - 1))) (bit_at_above n 7 (light + (dark - 1)) seven (omega arith)) (darks (dark - 1) (omega arith)))
    (λ (h : light + dark ≤ 7). h)
    (cases_lt 7 (light + dark)) in
    record { lights = lights; darks = darks; some = some; within = within }

-- counting the lowest zeros, and above them the ones, finds the first run
pub first_run-counted : (n light dark : ℕ) → 0 < n → n < 2 ^ 7 → light ≡ trailing_zeros w32 n → dark ≡ trailing_ones w32 (n / 2 ^ light) → IsFirstRun n light dark
first_run-counted n light dark some seven is_light is_dark =
    let zeros = bit_at-trailing_zeros w32 n some (omega arith) in
    let ones = bit_at-trailing_ones w32 (n / 2 ^ light) (omega (arith, div-le_self n (2 ^ light))) in
    first_run n light dark seven
    (ap (λ i. bit_at n i) is_light ∙ zeros.1)
    (λ i h. zeros.2 i (omega arith))
    (ap (λ i. bit_at (n / 2 ^ light) i) is_dark ∙ ones.1)
    (λ i h. ones.2 i (omega arith))

-- light dots have no place
in_any-lights : (bits x y top n : ℕ) (u v : ℤ) → ((i : ℕ) → i < n → bit_at bits (top + i) ≡ 0) → in_any (top + n) (bit_pixels bits x y) u v ≡ in_any top (bit_pixels bits x y) u v
in_any-lights bits x y top zero u v lights =
    let e : top + 0 ≡ top = omega arith in
    ap (λ k. in_any k (bit_pixels bits x y) u v) e
in_any-lights bits x y top (suc n) u v lights =
    let e : top + suc n ≡ suc (top + n) = omega arith in
    let light : bit_pixels bits x y (top + n) u v ≡ false =
    ap (λ b. cond (b == 1) (rectangle (pos x) (pos (y + 2 * (top + n))) 2 2) nowhere u v) (lights n (omega arith)) in
    ap (λ k. in_any k (bit_pixels bits x y) u v) e
    ∙ (ap₂ (λ (a b : Bool). a || b) (in_any-lights bits x y top n u v (λ i h. lights i (omega arith))) light
    ∙ or-false (in_any top (bit_pixels bits x y) u v))

no_rows : (x y : ℕ) (u v : ℤ) → rectangle (pos x) (pos y) 2 0 u v ≡ false
no_rows x y u v = grind (arith, ints)

dot_more : (x y n z : ℕ) (u v : ℤ) → z ≡ y + 2 * n → rectangle (pos x) (pos y) 2 (2 * suc n) u v ≡ rectangle (pos x) (pos y) 2 (2 * n) u v || rectangle (pos x) (pos z) 2 2 u v
dot_more x y n z u v at = grind (arith, ints)

-- dark dots one under the other are a rectangle
in_any-darks : (bits x y top n : ℕ) (u v : ℤ) → ((i : ℕ) → i < n → bit_at bits (top + i) ≡ 1) → in_any (top + n) (bit_pixels bits x y) u v ≡ in_any top (bit_pixels bits x y) u v || rectangle (pos x) (pos (y + 2 * top)) 2 (2 * n) u v
in_any-darks bits x y top zero u v darks =
    let e : top + 0 ≡ top = omega arith in
    ap (λ k. in_any k (bit_pixels bits x y) u v) e
    ∙ sym (ap (λ (t : Bool). in_any top (bit_pixels bits x y) u v || t) (no_rows x (y + 2 * top) u v) ∙ or-false (in_any top (bit_pixels bits x y) u v))
in_any-darks bits x y top (suc n) u v darks =
    let e : top + suc n ≡ suc (top + n) = omega arith in
    let dark : bit_pixels bits x y (top + n) u v ≡ rectangle (pos x) (pos (y + 2 * (top + n))) 2 2 u v =
    ap (λ b. cond (b == 1) (rectangle (pos x) (pos (y + 2 * (top + n))) 2 2) nowhere u v) (darks n (omega arith)) in
    let before = in_any top (bit_pixels bits x y) u v in
    ap (λ k. in_any k (bit_pixels bits x y) u v) e
    ∙ (ap₂ (λ (a b : Bool). a || b) (in_any-darks bits x y top n u v (λ i h. darks i (omega arith))) dark
    ∙ (or_assoc before (rectangle (pos x) (pos (y + 2 * top)) 2 (2 * n) u v) (rectangle (pos x) (pos (y + 2 * (top + n))) 2 2 u v)
    ∙ ap (λ (t : Bool). before || t) (sym (dot_more x (y + 2 * top) n (y + 2 * (top + n)) u v (omega arith)))))

-- a bit of what is left of a column is one of the column's
bit_of_rest : (bits rest top i : ℕ) → rest ≡ bits / 2 ^ top → bit_at rest i ≡ bit_at bits (top + i)
bit_of_rest bits rest top i left = ap (λ n. bit_at n i) left ∙ bit_at-shr bits top i

-- a run below other dots: the light ones above it, and its dark ones
in_any-run : (bits x y top light dark : ℕ) (u v : ℤ) → ((i : ℕ) → i < light → bit_at bits (top + i) ≡ 0) → ((i : ℕ) → i < dark → bit_at bits ((top + light) + i) ≡ 1) → in_any (top + (light + dark)) (bit_pixels bits x y) u v ≡ in_any top (bit_pixels bits x y) u v || rectangle (pos x) (pos (y + 2 * (top + light))) 2 (2 * dark) u v
in_any-run bits x y top light dark u v lights darks =
    let e : top + (light + dark) ≡ (top + light) + dark = omega arith in
    ap (λ k. in_any k (bit_pixels bits x y) u v) e
    ∙ (in_any-darks bits x y (top + light) dark u v darks
    ∙ ap (λ (t : Bool). t || rectangle (pos x) (pos (y + 2 * (top + light))) 2 (2 * dark) u v) (in_any-lights bits x y top light u v lights))

-- the dots of a column's next run, when those above it are painted
pub painted-run : (start before after : Page) (bits rest x y top light dark : ℕ) → rest ≡ bits / 2 ^ top → IsFirstRun rest light dark → before ≡ painted start (in_any top (bit_pixels bits x y)) → after ≡ painted before (rectangle (pos x) (pos (y + 2 * (top + light))) 2 (2 * dark)) → after ≡ painted start (in_any (top + (light + dark)) (bit_pixels bits x y))
painted-run start before after bits rest x y top light dark left run so_far next =
    let above : Pixels = in_any top (bit_pixels bits x y) in
    let dots : Pixels = rectangle (pos x) (pos (y + 2 * (top + light))) 2 (2 * dark) in
    let lights : (i : ℕ) → i < light → bit_at bits (top + i) ≡ 0 = λ i h. sym (bit_of_rest bits rest top i left) ∙ run.lights i h in
    let darks : (i : ℕ) → i < dark → bit_at bits ((top + light) + i) ≡ 1 =
    λ i h. let e : (top + light) + i ≡ top + (light + i) = omega arith in ap (λ k. bit_at bits k) e ∙ sym (bit_of_rest bits rest top (light + i) left) ∙ run.darks i h in
    next
    ∙ (ap (λ (p : Page). painted p dots) so_far
    ∙ (sym (painted-union start above dots)
    ∙ painted-same start (union above dots) (in_any (top + (light + dark)) (bit_pixels bits x y)) (λ u v l h. sym (in_any-run bits x y top light dark (pos u) (pos v) lights darks))))

-- a run of a column with seven dots ends at its end at the latest
pub run-within : (bits rest top light dark : ℕ) → bits < 2 ^ 7 → rest ≡ bits / 2 ^ top → IsFirstRun rest light dark → top + (light + dark) ≤ 7
run-within bits rest top light dark seven left run =
    let last = light + (dark - 1) in
    let some = run.some in
    ⊎_elim (λ (h : 7 < top + (light + dark)).
    no_bit_is_two (bit_at bits (top + last)) (bit_at_above bits 7 (top + last) seven (omega arith))
    (sym (bit_of_rest bits rest top last left) ∙ run.darks (dark - 1) (omega arith)))
    (λ (h : top + (light + dark) ≤ 7). h)
    (cases_lt 7 (top + (light + dark)))

-- no bit is left: all dots are painted
pub painted-column : (start page : Page) (bits rest x y top : ℕ) → rest ≡ bits / 2 ^ top → rest ≡ 0 → top ≤ 7 → page ≡ painted start (in_any top (bit_pixels bits x y)) → page ≡ painted start (in_any 7 (bit_pixels bits x y))
painted-column start page bits rest x y top left none within so_far =
    let lights : (i : ℕ) → i < 7 - top → bit_at bits (top + i) ≡ 0 =
    λ i h. sym (bit_of_rest bits rest top i left) ∙ (ap (λ n. bit_at n i) none ∙ bit_at-zero i) in
    let e : top + (7 - top) ≡ 7 = omega arith in
    so_far
    ∙ (painted-same start (in_any top (bit_pixels bits x y)) (in_any (top + (7 - top)) (bit_pixels bits x y)) (λ u v l h. sym (in_any-lights bits x y top (7 - top) (pos u) (pos v) lights))
    ∙ ap (λ k. painted start (in_any k (bit_pixels bits x y))) e)
