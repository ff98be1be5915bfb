-- The best place of a search that goes row by row.
use Rattle.std.proofs.Common.{◌≡◌, ◌+◌, ◌-◌, ◌≤◌, ◌<◌, ◌⊎◌, inl, inr, ℕ, pos, ◌+ℤ◌, ◌-ℤ◌, ◌≤ℤ◌, ◌<ℤ◌, Option, Some, None, arith, refl, sym, subst}
use Rattle.std.proofs.lemmas.Int.{ints, by_lt_z}
use Rattle.std.proofs.lemmas.Bool.{cases_lt}
use Rattle.vx_base.proofs.Integers.{natural-of}
use Rattle.vx_plane.specs.Plane.{Page}
use Rattle.vx_grid.specs.declared.places.Point.{Point}
use Rattle.vx_grid.proofs.MarkPlaces.{same-point}
use Rattle.vx_mark.specs.declared.pixels.Span.{Span}
use Rattle.vx_mark.specs.declared.search.Found.{Found}
use Rattle.vx_mark_model.specs.Mark.{deficit_of, IsAccepted}
use Rattle.vx_mark_model.specs.Best.{IsNear, IsBetter, IsBest}
use Rattle.vx_mark.specs.Search.{place_in, place_of, HasFootprint, AreColumns, AreRows, IsRow, AreFew, IsOut, IsCap, IsSeen, IsFound, IsBestSeen, bound_of}

-- a column and a row of the search are near the predicted place, and have room in the frame
pub column-low : (page : Page) (predicted : Point) (columns : Span) (u : ℕ) → AreColumns page predicted columns → columns.first ≤ u → ((predicted.u -ℤ pos 10) ≤ℤ pos u) × (pos 23 ≤ℤ pos u)
column-low page predicted columns u c from = (c.first.holds (pos u)).0 (omega (arith, ints))

pub column-high : (page : Page) (predicted : Point) (columns : Span) (u : ℕ) → AreColumns page predicted columns → u < columns.past → (pos u ≤ℤ (predicted.u +ℤ pos 10)) × (pos u ≤ℤ (pos page.width -ℤ pos 23))
column-high page predicted columns u c before = (c.past.holds (pos u) (omega (arith, ints))).0 (omega (arith, ints))

pub row-near : (page : Page) (predicted : Point) (columns : Span) (u v : ℕ) → AreColumns page predicted columns → IsRow page predicted v → columns.first ≤ u → u < columns.past → IsNear predicted (place_in u v)
row-near page predicted columns u v c r from before = record {
  left = (column-low page predicted columns u c from).0;
  right = (column-high page predicted columns u c before).0;
  top = r.near_top;
  bottom = r.near_bottom;
}

pub row-footprint : (page : Page) (predicted : Point) (columns : Span) (u v : ℕ) → AreColumns page predicted columns → IsRow page predicted v → columns.first ≤ u → u < columns.past → HasFootprint page u v
row-footprint page predicted columns u v c r from before =
    let low : pos 23 ≤ℤ pos u = (column-low page predicted columns u c from).1 in
    let high : pos u ≤ℤ (pos page.width -ℤ pos 23) = (column-high page predicted columns u c before).1 in
    record { left = omega (arith, ints); right = omega (arith, ints); top = r.top; bottom = r.bottom }

pub columns-few : (page : Page) (predicted : Point) (columns : Span) → AreColumns page predicted columns → AreFew page.width columns
columns-few page predicted columns c = record { few = few; left = left; right = right }
  where
    left : columns.first < columns.past → 23 ≤ columns.first
    left some = let low : pos 23 ≤ℤ pos columns.first = (column-low page predicted columns columns.first c (omega arith)).1 in omega (arith, ints)

    right : columns.first < columns.past → columns.past + 23 ≤ page.width + 1
    right some =
        let last = columns.past - 1 in
        let high : pos last ≤ℤ (pos page.width -ℤ pos 23) = (column-high page predicted columns last c (omega arith)).1 in
        omega (arith, ints)

    few : columns.past ≤ columns.first + 24
    few = elim (cases_lt columns.first columns.past) [
      | inl some ↦
          let last = columns.past - 1 in
          let high : pos last ≤ℤ (predicted.u +ℤ pos 10) = (column-high page predicted columns last c (omega arith)).0 in
          let low : (predicted.u -ℤ pos 10) ≤ℤ pos columns.first = (column-low page predicted columns columns.first c (omega arith)).0 in
          omega (arith, ints)
      | inr none ↦ omega arith
    ]

-- a row of the search
pub row-is : (page : Page) (predicted : Point) (rows : Span) (v : ℕ) → AreRows page predicted rows → rows.first ≤ v → v < rows.past → IsRow page predicted v
row-is page predicted rows v r from before =
    let low : ((predicted.v -ℤ pos 6) ≤ℤ pos v) × (pos 11 ≤ℤ pos v) = (r.first.holds (pos v)).0 (omega (arith, ints)) in
    let high : (pos v ≤ℤ (predicted.v +ℤ pos 6)) × (pos v ≤ℤ (pos page.height -ℤ pos 11)) = (r.past.holds (pos v) (omega (arith, ints))).0 (omega (arith, ints)) in
    record { near_top = low.0; near_bottom = high.0; top = omega (arith, ints, low.1); bottom = omega (arith, ints, high.1) }

-- an accepted place near the predicted one stands in a column and a row of the search
columns-hold : (page : Page) (predicted q : Point) (columns : Span) → AreColumns page predicted columns → IsAccepted page q → IsNear predicted q → (pos columns.first ≤ℤ q.u) × (q.u <ℤ pos columns.past)
columns-hold page predicted q columns c good near =
    ((c.first.holds q.u).1 (near.left, good.in_frame.left), (c.past.holds q.u (omega (arith, ints, good.in_frame.left))).1 (near.right, good.in_frame.right))

rows-hold : (page : Page) (predicted q : Point) (rows : Span) → AreRows page predicted rows → IsAccepted page q → IsNear predicted q → (pos rows.first ≤ℤ q.v) × (q.v <ℤ pos rows.past)
rows-hold page predicted q rows r good near =
    ((r.first.holds q.v).1 (near.top, good.in_frame.top), (r.past.holds q.v (omega (arith, ints, good.in_frame.top))).1 (near.bottom, good.in_frame.bottom))

-- the place itself isn't better
better-irreflexive : (page : Page) (p : Point) → IsBetter page p p → ⊥
better-irreflexive page p h = elim h [ inl a ↦ omega arith | inr b ↦ elim b [ inl c ↦ omega (arith, ints) | inr d ↦ omega (arith, ints) ] ]

-- a better place has no higher deficit
no-worse : (page : Page) (p q : Point) → IsBetter page p q → deficit_of page p ≤ deficit_of page q
no-worse page p q h = elim h [ inl a ↦ omega arith | inr b ↦ elim b [ inl c ↦ omega arith | inr d ↦ omega arith ] ]

-- a place seen with the one in column u of row v was seen before, or is that one
seen-cases : {P : Type 0} (predicted q : Point) (u v : ℕ) → IsSeen predicted (u + 1) v q → (IsSeen predicted u v q → P) → (q ≡ place_in u v → P) → P
seen-cases predicted q u v seen before here =
    elim seen.1 [
      | inl a ↦ before (seen.0, inl a)
      | inr b ↦ by_lt_z q.u (pos u) (λ l. before (seen.0, inr (b.0, l))) (λ m. here (same-point q (place_in u v) (omega (arith, ints)) b.0))
    ]

-- the place in column u of row v is the best, where its deficit is below the bound
pub best-some : (page : Page) (predicted : Point) (cap u v d : ℕ) (best : Option Found) → IsNear predicted (place_in u v) → IsBestSeen page predicted cap u v best → IsAccepted page (place_in u v) → d ≡ deficit_of page (place_in u v) → d < bound_of cap best → IsFound page predicted (u + 1) v (record { pixel = record { u = u; v = v }; deficit = d })
best-some page predicted cap u v d None near before good e less = record {
  accepted = good;
  seen = (near, inr (refl, omega (arith, ints)));
  deficit = e;
  best = λ q fine seen better. seen-cases predicted q u v seen
      (λ s. let least : cap ≤ deficit_of page q = before q fine s in let no_more : deficit_of page q ≤ deficit_of page (place_in u v) = no-worse page q (place_in u v) better in omega arith)
      (λ f. better-irreflexive page (place_in u v) (subst (λ (r : Point). IsBetter page r (place_in u v)) f better));
}
best-some page predicted cap u v d (Some found) near before good e less = record {
  accepted = good;
  seen = (near, inr (refl, omega (arith, ints)));
  deficit = e;
  best = λ q fine seen better. seen-cases predicted q u v seen
      (λ s. let no_more : deficit_of page q ≤ deficit_of page (place_in u v) = no-worse page q (place_in u v) better in let told : found.deficit ≡ deficit_of page (place_of found.pixel) = before.deficit in before.best q fine s (inl (omega arith)))
      (λ f. better-irreflexive page (place_in u v) (subst (λ (r : Point). IsBetter page r (place_in u v)) f better));
}

-- a place in the order of the search from column u of row v on
abbrev pub IsFrom : ℕ → ℕ → Point → Type 0
IsFrom u v q = (pos v <ℤ q.v) ⊎ ((q.v ≡ pos v) × (pos u ≤ℤ q.u))

-- a later place with no lower deficit isn't better
not-better : (page : Page) (predicted q : Point) (u v : ℕ) (found : Found) → IsFrom u v q → IsFound page predicted u v found → found.deficit ≤ deficit_of page q → IsBetter page q (place_of found.pixel) → ⊥
not-better page predicted q u v found later before least better =
    let told : found.deficit ≡ deficit_of page (place_of found.pixel) = before.deficit in
    let seen = before.seen.1 in
    elim better [
      | inl a ↦ omega arith
      | inr b ↦ elim b [
        | inl c ↦ elim seen [ inl s ↦ elim later [ inl l ↦ omega (arith, ints) | inr l ↦ omega (arith, ints) ] | inr s ↦ elim later [ inl l ↦ omega (arith, ints) | inr l ↦ omega (arith, ints) ] ]
        | inr d ↦ elim seen [ inl s ↦ elim later [ inl l ↦ omega (arith, ints) | inr l ↦ omega (arith, ints) ] | inr s ↦ elim later [ inl l ↦ omega (arith, ints) | inr l ↦ omega (arith, ints) ] ]
      ]
    ]

-- the best stays, where each place that is seen besides stands later and its deficit reaches the bound
pub best-kept : (page : Page) (predicted : Point) (cap u v u' v' : ℕ) (best : Option Found) → ((q : Point) → IsSeen predicted u v q → IsSeen predicted u' v' q) → ((q : Point) → IsAccepted page q → IsSeen predicted u' v' q → IsSeen predicted u v q ⊎ (IsFrom u v q × (bound_of cap best ≤ deficit_of page q))) → IsBestSeen page predicted cap u v best → IsBestSeen page predicted cap u' v' best
best-kept page predicted cap u v u' v' None onwards new before = λ q good seen. elim (new q good seen) [ inl s ↦ before q good s | inr l ↦ l.1 ]
best-kept page predicted cap u v u' v' (Some found) onwards new before = record {
  accepted = before.accepted;
  seen = onwards (place_of found.pixel) before.seen;
  deficit = before.deficit;
  best = λ q good seen better. elim (new q good seen) [ inl s ↦ before.best q good s better | inr l ↦ not-better page predicted q u v found l.0 before l.1 better ];
}

-- a place whose deficit reaches the bound changes nothing
pub best-none : (page : Page) (predicted : Point) (cap u v : ℕ) (best : Option Found) → IsBestSeen page predicted cap u v best → bound_of cap best ≤ deficit_of page (place_in u v) → IsBestSeen page predicted cap (u + 1) v best
best-none page predicted cap u v best before least =
    best-kept page predicted cap u v (u + 1) v best
    (λ q s. elim s.1 [ inl a ↦ (s.0, inl a) | inr b ↦ (s.0, inr (b.0, omega (arith, ints))) ])
    (λ q good seen. seen-cases predicted q u v seen (λ s. inl s)
    (λ f. let At : Point → Type 0 = λ r. IsFrom u v r × (bound_of cap best ≤ deficit_of page r) in inr (subst At (sym f) (inr (refl, omega (arith, ints)), least))))
    before

-- nor does a row each of whose places has such a deficit
pub row-out : (page : Page) (predicted : Point) (cap v : ℕ) (columns : Span) (best : Option Found) → AreColumns page predicted columns → IsBestSeen page predicted cap 0 v best → IsOut page columns v (bound_of cap best) → IsBestSeen page predicted cap 0 (v + 1) best
row-out page predicted cap v columns best c before out =
    best-kept page predicted cap 0 v 0 (v + 1) best
    (λ q s. elim s.1 [ inl a ↦ (s.0, inl (omega (arith, ints))) | inr b ↦ (s.0, inl (omega (arith, ints))) ])
    (λ q good seen. elim seen.1 [
      | inl a ↦ by_lt_z q.v (pos v) (λ l. inl (seen.0, inl l)) (λ m.
          let row : q.v ≡ pos v = omega (arith, ints) in
          let held = columns-hold page predicted q columns c good seen.0 in
          let column = natural-of q.u (omega (arith, ints, held.0)) in
          let here : q ≡ place_in column.0 v = same-point q (place_in column.0 v) column.1 row in
          let At : Point → Type 0 = λ r. bound_of cap best ≤ deficit_of page r in
          inr (inr (row, omega (arith, ints, held.0)), subst At (sym here) (out column.0 (omega (arith, ints, held.0, column.1)) (omega (arith, ints, held.1, column.1)))))
      | inr b ↦ absurd (omega (arith, ints, good.in_frame.left))
    ])
    before

-- and ends past its last one
pub row-end : (page : Page) (predicted : Point) (cap u v : ℕ) (columns : Span) (best : Option Found) → AreColumns page predicted columns → columns.past ≤ u → IsBestSeen page predicted cap u v best → IsBestSeen page predicted cap 0 (v + 1) best
row-end page predicted cap u v columns best c end before =
    best-kept page predicted cap u v 0 (v + 1) best
    (λ q s. elim s.1 [ inl a ↦ (s.0, inl (omega (arith, ints))) | inr b ↦ (s.0, inl (omega (arith, ints))) ])
    (λ q good seen. elim seen.1 [
      | inl a ↦ by_lt_z q.v (pos v) (λ l. inl (seen.0, inl l)) (λ m.
          let held = (columns-hold page predicted q columns c good seen.0).1 in
          inl (seen.0, inr (omega (arith, ints), omega (arith, ints, held))))
      | inr b ↦ absurd (omega (arith, ints, good.in_frame.left))
    ])
    before

-- after the last row every accepted place near is seen
all-seen : (page : Page) (predicted q : Point) (v : ℕ) (rows : Span) → AreRows page predicted rows → rows.past ≤ v → IsAccepted page q → IsNear predicted q → IsSeen predicted 0 v q
all-seen page predicted q v rows r end good near = (near, inl (omega (arith, ints, (rows-hold page predicted q rows r good near).1)))

itself-near : (p : Point) → IsNear p p
itself-near p = record { left = omega (arith, ints); right = omega (arith, ints); top = omega (arith, ints); bottom = omega (arith, ints) }

pub none-near : (page : Page) (predicted : Point) (cap v : ℕ) (rows : Span) → AreRows page predicted rows → rows.past ≤ v → IsCap page predicted cap → IsBestSeen page predicted cap 0 v None → (q : Point) → IsAccepted page q → IsNear predicted q → ⊥
none-near page predicted cap v rows r end is h q good near =
    let least : cap ≤ deficit_of page q = h q good (all-seen page predicted q v rows r end good near) in
    elim is [
      | inl most ↦ omega (arith, good.deficit)
      | inr own ↦ omega (arith, own.1, h predicted own.0 (all-seen page predicted predicted v rows r end own.0 (itself-near predicted)))
    ]

pub found-best : (page : Page) (predicted : Point) (v : ℕ) (rows : Span) (found : Found) → AreRows page predicted rows → rows.past ≤ v → IsFound page predicted 0 v found → IsBest page predicted (place_of found.pixel)
found-best page predicted v rows found r end h = record {
  accepted = h.accepted;
  near = h.seen.0;
  best = λ q good near better. h.best q good (all-seen page predicted q v rows r end good near) better;
}
