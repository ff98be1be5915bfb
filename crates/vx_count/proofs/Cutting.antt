-- A rectangle that is cut at a frame has the same count.
use Rattle.std.proofs.Common.{◌≡◌, ℕ, zero, suc, ◌+◌, ◌<◌, ◌≤◌, ◌⊎◌, min, false, ℤ, pos, negsuc, ◌+ℤ◌, ◌-ℤ◌, ◌≤ℤ◌, ◌<ℤ◌, nat_abs, refl, ap, sym, subst, ◌∙◌, arith, inl, inr}
use Rattle.std.proofs.lemmas.Bool.{cases_lt}
use Rattle.std.proofs.lemmas.Int.{ints, by_lt_z}
use Rattle.vx_plane.specs.Plane.{Page, dark_at}
use Rattle.vx_plane.specs.Count.{one_if, sum_from, count_in}
use Rattle.vx_plane.proofs.Counts.{count_in-by_rows}
use Rattle.vx_plane.proofs.Pages.{dark_at-out_of_frame}
use Rattle.vx_plane.proofs.Sums.{sum_from-same, sum_from-parts, sum_from-same_number}
use Rattle.vx_count.specs.Cut.{frame_before, IsCut}
use Rattle.vx_count.specs.Turned.{IsWhole}

-- what is known of a frame's columns before a place, by where the place lies
before-cases : (z : ℤ) (frame : ℕ) → ((z ≤ℤ pos 0) × (frame_before z frame ≡ 0)) ⊎ ((pos frame ≤ℤ z) × (frame_before z frame ≡ frame)) ⊎ ((pos 0 ≤ℤ z) × (z ≤ℤ pos frame) × (pos (frame_before z frame) ≡ z))
before-cases (negsuc n) frame = inl (omega (arith, ints), refl)
before-cases (pos n) frame =
    elim (cases_lt n frame) [
      | inl inside ↦ let e : min n frame ≡ n = omega arith in inr (inr (omega (arith, ints), omega (arith, ints), ap pos e))
      | inr past ↦ inr (inl (omega (arith, ints), omega arith))
    ]

frame_before-le : (z : ℤ) (frame : ℕ) → frame_before z frame ≤ frame
frame_before-le (pos n) frame = omega arith
frame_before-le (negsuc n) frame = omega arith

sum_from-zero : (low : ℤ) (n : ℕ) (f : ℤ → ℕ) → ((z : ℤ) → low ≤ℤ z → z <ℤ (low +ℤ pos n) → f z ≡ 0) → sum_from low n f ≡ 0
sum_from-zero low n f none = sum_from-same low n f (λ z. 0) none ∙ sum_from-same_number low n 0 ∙ omega arith

-- a sum whose summands are 0 but for those of a run in its middle
sum_from-middle : (low mid : ℤ) (a n b size : ℕ) (f : ℤ → ℕ) → size ≡ a + (n + b) → low +ℤ pos a ≡ mid → ((z : ℤ) → low ≤ℤ z → z <ℤ mid → f z ≡ 0) → ((z : ℤ) → (mid +ℤ pos n) ≤ℤ z → z <ℤ (low +ℤ pos size) → f z ≡ 0) → sum_from low size f ≡ sum_from mid n f
sum_from-middle low mid a n b size f whole place before after =
    let first : sum_from low a f ≡ 0 = sum_from-zero low a f (λ z p q. before z p (omega (arith, ints))) in
    let last : sum_from (mid +ℤ pos n) b f ≡ 0 = sum_from-zero (mid +ℤ pos n) b f (λ z p q. after z p (omega (arith, ints))) in
    let all : sum_from low size f ≡ sum_from low a f + sum_from mid (n + b) f = ap (λ k. sum_from low k f) whole ∙ sum_from-parts low a (n + b) f ∙ ap (λ z. sum_from low a f + sum_from z (n + b) f) place in
    omega (arith, sum_from-parts mid n b f)

-- a place of a frame that is cut lies in the cut
cut-inside : (from : ℤ) (size frame first count : ℕ) → IsCut from size frame first count → (z : ℤ) → from ≤ℤ z → z <ℤ (from +ℤ pos size) → pos 0 ≤ℤ z → z <ℤ pos frame → (pos first ≤ℤ z) × (z <ℤ pos (first + count))
cut-inside from size frame first count cut z p q above below =
    let starts : first ≡ frame_before from frame = cut.starts in
    let ends : first + count ≡ frame_before (from +ℤ pos size) frame = cut.ends in (
      elim (before-cases from frame) [
        | inl (a, b) ↦ omega (arith, ints)
        | inr (inl (a, b)) ↦ absurd (omega (arith, ints))
        | inr (inr (a, b, e)) ↦ omega (arith, ints)
      ],
      elim (before-cases (from +ℤ pos size) frame) [
        | inl (a, b) ↦ absurd (omega (arith, ints))
        | inr (inl (a, b)) ↦ omega (arith, ints)
        | inr (inr (a, b, e)) ↦ omega (arith, ints)
      ],
    )

-- a cut that isn't empty lies in what was cut
cut-within : (from : ℤ) (size frame first count : ℕ) → IsCut from size frame first count → 0 < count → (from ≤ℤ pos first) × (pos (first + count) ≤ℤ (from +ℤ pos size))
cut-within from size frame first count cut some =
    let starts : first ≡ frame_before from frame = cut.starts in
    let ends : first + count ≡ frame_before (from +ℤ pos size) frame = cut.ends in (
      elim (before-cases from frame) [
        | inl (a, b) ↦ omega (arith, ints)
        | inr (inl (a, b)) ↦ absurd (omega (arith, ints, frame_before-le (from +ℤ pos size) frame))
        | inr (inr (a, b, e)) ↦ omega (arith, ints)
      ],
      elim (before-cases (from +ℤ pos size) frame) [
        | inl (a, b) ↦ absurd (omega (arith, ints))
        | inr (inl (a, b)) ↦ omega (arith, ints)
        | inr (inr (a, b, e)) ↦ omega (arith, ints)
      ],
    )

-- a place is in the frame or not
outside-or : {P : Type 0} (z : ℤ) (frame : ℕ) → ((z <ℤ pos 0) ⊎ (pos frame ≤ℤ z) → P) → (pos 0 ≤ℤ z → z <ℤ pos frame → P) → P
outside-or z frame outside inside =
    by_lt_z z (pos 0) (λ l. outside (inl l)) (λ m. by_lt_z z (pos frame) (λ n. inside m n) (λ n. outside (inr n)))

-- a sum whose summands outside a frame are 0, cut at the frame
sum_from-cut : (from : ℤ) (size frame first count : ℕ) (f : ℤ → ℕ) → IsCut from size frame first count → ((z : ℤ) → (z <ℤ pos 0) ⊎ (pos frame ≤ℤ z) → f z ≡ 0) → sum_from from size f ≡ sum_from (pos first) count f
sum_from-cut from size frame first zero f cut outside =
    sum_from-zero from size f (λ z p q. outside-or z frame (outside z)
    (λ l m. let in_cut = cut-inside from size frame first 0 cut z p q l m in absurd (omega (arith, ints))))
sum_from-cut from size frame first (suc count) f cut outside =
    let within : (from ≤ℤ pos first) × (pos (first + suc count) ≤ℤ (from +ℤ pos size)) = cut-within from size frame first (suc count) cut (omega arith) in
    let a : ℕ = nat_abs (pos first -ℤ from) in
    let b : ℕ = nat_abs ((from +ℤ pos size) -ℤ pos (first + suc count)) in
    sum_from-middle from (pos first) a (suc count) b size f (omega (arith, ints)) (omega (arith, ints))
    (λ z p q. outside-or z frame (outside z)
    (λ l m. let in_cut = cut-inside from size frame first (suc count) cut z p (omega (arith, ints)) l m in absurd (omega (arith, ints))))
    (λ z p q. outside-or z frame (outside z)
    (λ l m. let in_cut = cut-inside from size frame first (suc count) cut z (omega (arith, ints)) q l m in absurd (omega (arith, ints))))

-- the count of a page in a rectangle is that in the part of it that lies in the frame
pub count_in-cut : (page : Page) (left top : ℤ) (width height first columns above rows : ℕ) → IsWhole page → IsCut left width page.width first columns → IsCut top height page.height above rows → count_in left top width height (dark_at page) ≡ count_in (pos first) (pos above) columns rows (dark_at page)
count_in-cut page left top width height first columns above rows whole across down =
    let light : (u v : ℤ) → (u <ℤ pos 0) ⊎ (pos page.width ≤ℤ u) ⊎ (v <ℤ pos 0) ⊎ (pos page.height ≤ℤ v) → dark_at page u v ≡ false =
    λ u v out. subst (λ (p : Page). dark_at p u v ≡ false) (sym whole) (dark_at-out_of_frame page.width page.height (dark_at page) u v out) in
    count_in-by_rows left top width height (dark_at page)
    ∙ sum_from-cut top height page.height above rows _ down (λ v out. sum_from-zero left width _ (λ u p q. ap one_if (light u v (elim out [ inl l ↦ inr (inr (inl l)) | inr m ↦ inr (inr (inr m)) ]))))
    ∙ sum_from-same (pos above) rows _ _ (λ v p q. sum_from-cut left width page.width first columns _ across (λ u out. ap one_if (light u v (elim out [ inl l ↦ inl l | inr m ↦ inr (inl m) ]))))
    ∙ sym (count_in-by_rows (pos first) (pos above) columns rows (dark_at page))
