-- How much ink the paper of a page has in its boxes and zones.
use Rattle.std.proofs.Common.{◌≡◌, ℕ, ◌+◌, ◌≤◌, ◌<◌, Bool, true, false, not, ◌&&◌, ◌||◌, if◌then◌else◌, List, length, ℤ, pos, negsuc, ◌+ℤ◌, ◌-ℤ◌, refl, ap, ◌∙◌, arith}
use Rattle.std.specs.Prelude.{slice_index_or}
use Rattle.std.proofs.lemmas.Int.{ints}
use Rattle.vx_plane.specs.Plane.{Pixels, union, placed, nowhere}
use Rattle.vx_plane.specs.Count.{count_in}
use Rattle.vx_plane.proofs.Counts.{count_in-same, count_in-le, count_in-all, count_in-none, count_in-union_le, count_in-union_apart}
use Rattle.vx_plane.proofs.Pages.{in_any-one}
use Rattle.vx_geom.proofs.Placed.{placed-count}
use Rattle.vx_grid.specs.declared.paper.Paper.{Paper}
use Rattle.vx_grid.specs.Grid.{x_of, y_of}
use Rattle.vx_grid.specs.Sizes as sizes
use Rattle.vx_grid.specs.Sizes.{zone_of, round}
use Rattle.vx_code.specs.Code.{place_of_box, reserved_place}
use Rattle.vx_layout.specs.declared.bubbles.Bubble.{Bubble}
use Rattle.vx_layout.specs.declared.pages.PagePlan.{PagePlan}
use Rattle.vx_layout.specs.Print.{box_pixels, outline, bubble_pixels, print_of}
use Rattle.vx_layout.specs.Zones.{box_zone_at, code_zones, reserved_zones, Apart}
use Rattle.vx_layout.specs.Printed.{KeepsClear}
use Rattle.vx_margin.specs.Laws.{TimingMarksAreMarks}
use Rattle.vx_margin.specs.Shown.{count_round}
use Rattle.vx_scan_model.specs.Ink.{added_to, bubble_at}
use Rattle.vx_scan_model.proofs.Printed.{round-inside, bubble-printed, code-printed, reserved-empty, box-in_zone}

-- the outline of a bubble has 192 pixels
outline-in_zone : count_in (negsuc 35) (negsuc 24) 72 50 outline ≡ 192
unfolding count_in outline
outline-in_zone = refl

outline-in_box : count_in (negsuc 19) (negsuc 12) 40 26 outline ≡ 192
unfolding count_in outline
outline-in_box = refl

-- the outline of a bubble, in its zone and in its box
bubble-zone : (paper : Paper) (bubble : Bubble) → count_round paper (zone_of sizes.bubble) bubble.col bubble.row (bubble_pixels paper bubble) ≡ 192
unfolding bubble_pixels
bubble-zone paper bubble =
    let cx : ℤ = pos (x_of bubble.col) in
    let cy : ℤ = pos (y_of paper bubble.row) in
    let left : cx -ℤ pos 36 ≡ negsuc 35 +ℤ cx = omega (arith, ints) in
    let top : cy -ℤ pos 25 ≡ negsuc 24 +ℤ cy = omega (arith, ints) in
    ap (λ z. count_in z (cy -ℤ pos 25) 72 50 (placed cx cy outline)) left ∙ ap (λ z. count_in (negsuc 35 +ℤ cx) z 72 50 (placed cx cy outline)) top
    ∙ placed-count (negsuc 35) (negsuc 24) cx cy 72 50 outline ∙ outline-in_zone

bubble-box : (paper : Paper) (bubble : Bubble) → count_round paper sizes.bubble bubble.col bubble.row (bubble_pixels paper bubble) ≡ 192
unfolding bubble_pixels
bubble-box paper bubble =
    let cx : ℤ = pos (x_of bubble.col) in
    let cy : ℤ = pos (y_of paper bubble.row) in
    let left : cx -ℤ pos 20 ≡ negsuc 19 +ℤ cx = omega (arith, ints) in
    let top : cy -ℤ pos 13 ≡ negsuc 12 +ℤ cy = omega (arith, ints) in
    ap (λ z. count_in z (cy -ℤ pos 13) 40 26 (placed cx cy outline)) left ∙ ap (λ z. count_in (negsuc 19 +ℤ cx) z 40 26 (placed cx cy outline)) top
    ∙ placed-count (negsuc 19) (negsuc 12) cx cy 40 26 outline ∙ outline-in_box

-- what is on the paper is printed or added
on-paper : (print paper : Bool) → paper ≡ true → (print || (paper && not print)) ≡ true
on-paper true paper h = refl
on-paper false true h = refl
on-paper false false h = cc

added-true : (print paper : Bool) → (paper && not print) ≡ true → paper ≡ true
added-true print true h = refl
added-true print false h = cc

added-not : (print paper : Bool) → print ≡ true → (paper && not print) ≡ false
added-not true true h = refl
added-not true false h = refl
added-not false paper h = cc

neither : (print paper : Bool) → print ≡ false → (paper && not print ≡ true → ⊥) → paper ≡ false
neither print false h n = refl
neither false true h n = absurd (n refl)
neither true true h n = cc

either : {P : Type 0} (a b : Bool) → (a || b) ≡ true → (a ≡ true → P) → (b ≡ true → P) → P
either true b h left right = left refl
either false b h left right = right h

module _ (are : TimingMarksAreMarks) (plan : PagePlan) (keeps : KeepsClear plan) (boxes : List Bool) (paper : Pixels) (printed : (x y : ℤ) → print_of plan boxes x y ≡ true → paper x y ≡ true) where
  abbrev print : Pixels
  print = print_of plan boxes

  abbrev added : Pixels
  added = added_to print paper

  module _ (n : ℕ) (few : n < length plan.bubbles) where
    abbrev bubble : Bubble
    bubble = bubble_at plan n

    -- a bubble's zone has its outline and what was added
    pub zone-ink : count_round plan.paper (zone_of sizes.bubble) bubble.col bubble.row paper ≤ 192 + count_round plan.paper (zone_of sizes.bubble) bubble.col bubble.row added
    zone-ink =
        let cx : ℕ = x_of bubble.col in
        let cy : ℕ = y_of plan.paper bubble.row in
        let l : ℤ = pos cx -ℤ pos 36 in
        let t : ℤ = pos cy -ℤ pos 25 in
        let all : count_in l t 72 50 paper ≤ count_in l t 72 50 (union print added) = count_in-le l t 72 50 paper (union print added) (λ x y a b c d h. on-paper (print x y) (paper x y) h) in
        let parts : count_in l t 72 50 (union print added) ≤ count_in l t 72 50 print + count_in l t 72 50 added = count_in-union_le l t 72 50 print added in
        let own : count_in l t 72 50 print ≡ count_in l t 72 50 (bubble_pixels plan.paper bubble) =
        count_in-same l t 72 50 print (bubble_pixels plan.paper bubble) (λ x y a b c d. bubble-printed are plan keeps boxes n few x y (round-inside 36 25 cx cy x y a (omega (arith, ints, b)) c (omega (arith, ints, d)))) in
        let outline : count_in l t 72 50 (bubble_pixels plan.paper bubble) ≡ 192 = bubble-zone plan.paper bubble in
        omega (arith, all, parts, own, outline)

    -- its box has at least both
    pub box-ink : 192 + count_round plan.paper sizes.bubble bubble.col bubble.row added ≤ count_round plan.paper sizes.bubble bubble.col bubble.row paper
    box-ink =
        let cx : ℕ = x_of bubble.col in
        let cy : ℕ = y_of plan.paper bubble.row in
        let l : ℤ = pos cx -ℤ pos 20 in
        let t : ℤ = pos cy -ℤ pos 13 in
        let parts : count_in l t 40 26 (union print added) ≡ count_in l t 40 26 print + count_in l t 40 26 added =
        count_in-union_apart l t 40 26 print added (λ x y a b c d h. added-not (print x y) (paper x y) h) in
        let all : count_in l t 40 26 (union print added) ≤ count_in l t 40 26 paper =
        count_in-le l t 40 26 (union print added) paper (λ x y a b c d h. either (print x y) (added x y) h (printed x y) (added-true (print x y) (paper x y))) in
        let own : count_in l t 40 26 print ≡ count_in l t 40 26 (bubble_pixels plan.paper bubble) =
        count_in-same l t 40 26 print (bubble_pixels plan.paper bubble) (λ x y a b c d. bubble-printed are plan keeps boxes n few x y
        (box-in_zone plan.paper bubble x y (round-inside 20 13 cx cy x y a (omega (arith, ints, b)) c (omega (arith, ints, d))))) in
        let outline : count_in l t 40 26 (bubble_pixels plan.paper bubble) ≡ 192 = bubble-box plan.paper bubble in
        omega (arith, parts, all, own, outline)

  module _ (n : ℕ) (few : n < 84) where
    -- a box of the page code that is printed is dark
    pub box-full : slice_index_or boxes n false ≡ true → count_round plan.paper sizes.code_box (place_of_box plan.paper n).0 (place_of_box plan.paper n).1 paper ≡ 560
    unfolding box_pixels
    box-full is =
        let cx : ℕ = x_of (place_of_box plan.paper n).0 in
        let cy : ℕ = y_of plan.paper (place_of_box plan.paper n).1 in
        count_in-all (pos cx -ℤ pos 14) (pos cy -ℤ pos 10) 28 20 paper
        (λ x y a b c d.
        let box : round sizes.code_box cx cy x y ≡ true = round-inside 14 10 cx cy x y a (omega (arith, ints, b)) c (omega (arith, ints, d)) in
        let zone : box_zone_at plan.paper (place_of_box plan.paper n) x y ≡ true = round-inside 30 22 cx cy x y (omega (arith, ints, a)) (omega (arith, ints, b)) (omega (arith, ints, c)) (omega (arith, ints, d)) in
        printed x y (code-printed are plan keeps boxes n few x y zone ∙ shown (slice_index_or boxes n false) is x y box))
      where
        shown : (test : Bool) → test ≡ true → (x y : ℤ) → box_pixels plan.paper n x y ≡ true → (if test then box_pixels plan.paper n else nowhere) x y ≡ true
        shown true e x y h = h
        shown false e x y h = cc

    -- the zone of one that isn't printed is empty, and so is a reserved zone
    pub box-empty : Apart added (code_zones plan.paper) → slice_index_or boxes n false ≡ false → count_round plan.paper (zone_of sizes.code_box) (place_of_box plan.paper n).0 (place_of_box plan.paper n).1 paper ≡ 0
    unfolding code_zones
    box-empty apart is =
        let cx : ℕ = x_of (place_of_box plan.paper n).0 in
        let cy : ℕ = y_of plan.paper (place_of_box plan.paper n).1 in
        count_in-none (pos cx -ℤ pos 30) (pos cy -ℤ pos 22) 60 44 paper
        (λ x y a b c d.
        let zone : box_zone_at plan.paper (place_of_box plan.paper n) x y ≡ true = round-inside 30 22 cx cy x y a (omega (arith, ints, b)) c (omega (arith, ints, d)) in
        neither (print x y) (paper x y) (code-printed are plan keeps boxes n few x y zone ∙ blank (slice_index_or boxes n false) is x y)
        (λ h. apart.apart x y h (in_any-one 84 n (λ m. box_zone_at plan.paper (place_of_box plan.paper m)) x y few zone)))
      where
        blank : (test : Bool) → test ≡ false → (x y : ℤ) → (if test then box_pixels plan.paper n else nowhere) x y ≡ false
        blank true e x y = cc
        blank false e x y = refl

    pub reserved-blank : Apart added (reserved_zones plan.paper) → count_round plan.paper (zone_of sizes.code_box) (reserved_place n).0 (reserved_place n).1 paper ≡ 0
    unfolding reserved_zones
    reserved-blank apart =
        let cx : ℕ = x_of (reserved_place n).0 in
        let cy : ℕ = y_of plan.paper (reserved_place n).1 in
        count_in-none (pos cx -ℤ pos 30) (pos cy -ℤ pos 22) 60 44 paper
        (λ x y a b c d.
        let zone : box_zone_at plan.paper (reserved_place n) x y ≡ true = round-inside 30 22 cx cy x y a (omega (arith, ints, b)) c (omega (arith, ints, d)) in
        neither (print x y) (paper x y) (reserved-empty are plan keeps boxes n few x y zone)
        (λ h. apart.apart x y h (in_any-one 84 n (λ m. box_zone_at plan.paper (reserved_place m)) x y few zone)))
