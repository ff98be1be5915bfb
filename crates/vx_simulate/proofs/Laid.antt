-- Laws of painting one set after the other, on the paper and as a scan shows it.
use Rattle.std.proofs.Common.{◌≡◌, ◌⊎◌, ℕ, ◌+◌, ◌<◌, List, take, length, get_or, Bool, true, false, ◌||◌, ◌&&◌, ℤ, pos, ◌+ℤ◌, ◌≤ℤ◌, ◌<ℤ◌, refl, ap, ap₂, sym, ◌∙◌, inl, inr, arith}
use Rattle.std.specs.Ordering.{int_eq}
use Rattle.std.proofs.lemmas.Int.{ints, by_lt_z}
use Rattle.std.proofs.lemmas.Bool.{and_parts}
use Rattle.std.proofs.lemmas.Bool.Decides.{Decides-int_eq}
use Rattle.std.proofs.lemmas.List.Folds.{list_any_more}
use Rattle.vx_base.proofs.Booleans.{is-false, and-both, same-bool}
use Rattle.vx_plane.specs.Plane.{Pixels, Page, page_of, dark_at, nowhere, union, painted, in_any, rectangle}
use Rattle.vx_plane.proofs.Pages.{page_of-same, dark_at-inside, painted-union, painted-none, painted-same, in_any-more, rectangle-inside}
use Rattle.vx_grid.specs.declared.places.Point.{Point}
use Rattle.vx_geom.specs.Slants.{Slant, scan_row, scan_column, paper_column, paper_row, to_scan_of}
use Rattle.vx_geom.specs.Seen.{seen}
use Rattle.vx_geom.proofs.Ways.{paper_column-scan, paper_row-scan, scan_column-paper, scan_row-paper}
use Rattle.vx_grid.proofs.MarkPlaces.{same-point}
use Rattle.vx_simulate.specs.Flips.{places_from}
use Rattle.vx_simulate.specs.Flipped.{only, within}

-- a page is what its dark places make
abbrev IsWhole : Page → Type 0
IsWhole page = page ≡ page_of page.width page.height (dark_at page)

-- before the first set nothing is painted
pub laid-none : (page : Page) (set : Pixels) → IsWhole page → ((u v : ℤ) → set u v ≡ false) → page ≡ painted page set
laid-none page set whole none = sym (painted-none page set whole (λ x y l h. none (pos x) (pos y)))

-- one set more
pub laid-more : (start before after : Page) (so_far one all : Pixels) → before ≡ painted start so_far → after ≡ painted before one
    → ((u v : ℤ) → all u v ≡ so_far u v || one u v) → after ≡ painted start all
laid-more start before after so_far one all is next both =
    next
    ∙ ap (λ (p : Page). painted p one) is
    ∙ sym (painted-union start so_far one)
    ∙ painted-same start (union so_far one) all (λ x y l h. sym (both (pos x) (pos y)))

-- the same set
pub laid-same : (page after : Page) (a b : Pixels) → after ≡ painted page a → ((u v : ℤ) → a u v ≡ b u v) → after ≡ painted page b
laid-same page after a b is same = is ∙ painted-same page a b (λ x y l h. same (pos x) (pos y))

-- a set that is painted on a light page
pub on-light : (width height : ℕ) (set : Pixels) → painted (page_of width height nowhere) set ≡ page_of width height set
on-light width height set =
    page_of-same width height _ set (λ x y l h. ap (λ (t : Bool). t || set (pos x) (pos y)) (dark_at-inside width height x y nowhere l h))

-- the place itself
pub only-is : (p : Point) (u v : ℤ) → only p u v ≡ true → (u ≡ p.u) × (v ≡ p.v)
only-is p u v h =
    let parts = and_parts (int_eq u p.u) (int_eq v p.v) h in
    ((Decides-int_eq u p.u).0 parts.0, (Decides-int_eq v p.v).0 parts.1)

pub only-here : (p : Point) (u v : ℤ) → u ≡ p.u → v ≡ p.v → only p u v ≡ true
only-here p u v across down =
    and-both (int_eq u p.u) (int_eq v p.v) ((Decides-int_eq u p.u).1 across) ((Decides-int_eq v p.v).1 down)

-- where a scan shows one place of the paper
pub seen-only : (s : Slant) (p : Point) (u v : ℤ) → only (to_scan_of s p) u v ≡ seen s (only p) u v
seen-only s p u v =
    same-bool (only (to_scan_of s p) u v) (seen s (only p) u v)
    (λ h.
    let is = only-is (to_scan_of s p) u v h in
    only-here p (paper_column s u v) (paper_row s u v)
    (ap₂ (paper_column s) is.0 is.1 ∙ paper_column-scan s p.u p.v)
    (ap₂ (paper_row s) is.0 is.1 ∙ paper_row-scan s p.u p.v))
    (λ h.
    let is = only-is p (paper_column s u v) (paper_row s u v) h in
    only-here (to_scan_of s p) u v
    (sym (scan_column-paper s u v) ∙ ap₂ (scan_column s) is.0 is.1)
    (sym (scan_row-paper s u v) ∙ ap₂ (scan_row s) is.0 is.1))

-- a place that isn't on a page isn't painted
pub only-off : (page : Page) (p : Point) → IsWhole page → (p.u <ℤ pos 0) ⊎ (pos page.width ≤ℤ p.u) ⊎ (p.v <ℤ pos 0) ⊎ (pos page.height ≤ℤ p.v) → page ≡ painted page (only p)
only-off page p whole off =
    sym (painted-none page (only p) whole (λ x y l h.
    is-false (only p (pos x) (pos y)) (λ t. let is = only-is p (pos x) (pos y) t in not-off x y l h is.0 is.1 off)))
  where
    not-off : (x y : ℕ) → x < page.width → y < page.height → pos x ≡ p.u → pos y ≡ p.v → (p.u <ℤ pos 0) ⊎ (pos page.width ≤ℤ p.u) ⊎ (p.v <ℤ pos 0) ⊎ (pos page.height ≤ℤ p.v) → ⊥
    not-off x y l h a b (inl left) = absurd (omega (arith, ints, a, left))
    not-off x y l h a b (inr (inl right)) = absurd (omega (arith, ints, a, l, right))
    not-off x y l h a b (inr (inr (inl above))) = absurd (omega (arith, ints, b, above))
    not-off x y l h a b (inr (inr (inr below))) = absurd (omega (arith, ints, b, h, below))

-- a place that isn't in a frame
pub off-frame : (width height : ℕ) (u v : ℤ) → rectangle (pos 0) (pos 0) width height u v ≡ false
    → (u <ℤ pos 0) ⊎ (pos width ≤ℤ u) ⊎ (v <ℤ pos 0) ⊎ (pos height ≤ℤ v)
off-frame width height u v out =
    by_lt_z u (pos 0) (λ a. inl a) (λ a.
    by_lt_z u (pos width) (λ b.
    by_lt_z v (pos 0) (λ c. inr (inr (inl c))) (λ c.
    by_lt_z v (pos height) (λ d.
    let in_it : rectangle (pos 0) (pos 0) width height u v ≡ true = rectangle-inside (pos 0) (pos 0) width height u v a (omega (arith, ints, b)) c (omega (arith, ints, d)) in
    absurd (cc)) (λ d. inr (inr (inr d)))))
    (λ b. inr (inl b)))

-- a place that is in a set, or isn't
pub within-here : (p : Point) (zone : Pixels) (u v : ℤ) → zone p.u p.v ≡ true → only p u v ≡ within (only p) zone u v
within-here p zone u v inside =
    same-bool (only p u v) (within (only p) zone u v)
    (λ h. let is = only-is p u v h in and-both (only p u v) (zone u v) h (ap₂ zone is.0 is.1 ∙ inside))
    (λ h. (and_parts (only p u v) (zone u v) h).0)

pub within-not : (p : Point) (zone : Pixels) (u v : ℤ) → zone p.u p.v ≡ false → within (only p) zone u v ≡ false
within-not p zone u v out =
    is-false (within (only p) zone u v) (λ h.
    let parts = and_parts (only p u v) (zone u v) h in
    let is = only-is p u v parts.0 in
    let both : false ≡ true = sym out ∙ ap₂ zone (sym is.0) (sym is.1) ∙ parts.1 in
    absurd (cc))

both-within : (a b z : Bool) → ((a || b) && z) ≡ (a && z) || (b && z)
both-within true b true = refl
both-within true true false = refl
both-within true false false = refl
both-within false b z = refl

-- one place more of a list, all of them or those in a set
pub places-more : (left top : ℤ) (places : List (ℕ × ℕ)) (i : ℕ) (d : ℕ × ℕ) (u v : ℤ) → i < length places
    → places_from left top (take (i + 1) places) u v
    ≡ places_from left top (take i places) u v || only (record { u = left +ℤ pos (get_or places i d).0; v = top +ℤ pos (get_or places i d).1 }) u v
places-more left top places i d u v h =
    list_any_more (λ (at : ℕ × ℕ). int_eq u (left +ℤ pos at.0) && int_eq v (top +ℤ pos at.1)) places i d h

pub places-within-more : (left top : ℤ) (zone : Pixels) (places : List (ℕ × ℕ)) (i : ℕ) (d : ℕ × ℕ) (u v : ℤ) → i < length places
    → within (places_from left top (take (i + 1) places)) zone u v
    ≡ within (places_from left top (take i places)) zone u v || within (only (record { u = left +ℤ pos (get_or places i d).0; v = top +ℤ pos (get_or places i d).1 })) zone u v
places-within-more left top zone places i d u v h =
    ap (λ (t : Bool). t && zone u v) (places-more left top places i d u v h)
    ∙ both-within (places_from left top (take i places) u v) (only (record { u = left +ℤ pos (get_or places i d).0; v = top +ℤ pos (get_or places i d).1 }) u v) (zone u v)

-- one set more of a family, within another
pub family-within-more : (n : ℕ) (family : ℕ → Pixels) (zone : Pixels) (u v : ℤ)
    → within (in_any (n + 1) family) zone u v ≡ within (in_any n family) zone u v || within (family n) zone u v
family-within-more n family zone u v =
    ap (λ (t : Bool). t && zone u v) (in_any-more n family u v) ∙ both-within (in_any n family u v) (family n u v) (zone u v)

-- three sets that are painted one after the other on a light page
pub three-laid : (width height : ℕ) (light first second third : Page) (a b c : Pixels) → light ≡ page_of width height nowhere → first ≡ painted light a → second ≡ painted first b → third ≡ painted second c → third ≡ page_of width height (union (union a b) c)
three-laid width height light first second third a b c is_light by_a by_b by_c =
    by_c
    ∙ ap (λ (p : Page). painted p c) (by_b ∙ ap (λ (p : Page). painted p b) by_a)
    ∙ sym (painted-union light (union a b) c ∙ ap (λ (p : Page). painted p c) (painted-union light a b))
    ∙ ap (λ (p : Page). painted p (union (union a b) c)) is_light
    ∙ on-light width height (union (union a b) c)

-- one set more of a family
pub next-of-family : (start before after : Page) (n : ℕ) (family : ℕ → Pixels) → before ≡ painted start (in_any n family) → after ≡ painted before (family n)
    → after ≡ painted start (in_any (n + 1) family)
next-of-family start before after n family is next = laid-more start before after (in_any n family) (family n) (in_any (n + 1) family) is next (in_any-more n family)

-- what a scan shows of one set more
pub next-seen : (s : Slant) (start before after : Page) (n : ℕ) (family : ℕ → Pixels) → before ≡ painted start (seen s (in_any n family)) → after ≡ painted before (seen s (family n))
    → after ≡ painted start (seen s (in_any (n + 1) family))
next-seen s start before after n family is next =
    laid-more start before after (seen s (in_any n family)) (seen s (family n)) (seen s (in_any (n + 1) family)) is next
    (λ u v. in_any-more n family (paper_column s u v) (paper_row s u v))

-- one set more, within another
pub next-within : (start before after : Page) (n : ℕ) (family : ℕ → Pixels) (zone : Pixels) → before ≡ painted start (within (in_any n family) zone)
    → after ≡ painted before (within (family n) zone) → after ≡ painted start (within (in_any (n + 1) family) zone)
next-within start before after n family zone is next =
    laid-more start before after (within (in_any n family) zone) (within (family n) zone) (within (in_any (n + 1) family) zone) is next (family-within-more n family zone)

-- a place of a list by its offsets
abbrev pub place_at : ℤ → ℤ → List (ℕ × ℕ) → ℕ → ℕ × ℕ → Point
place_at left top places i d = record { u = left +ℤ pos (get_or places i d).0; v = top +ℤ pos (get_or places i d).1 }

-- what a scan shows of one place more of a list
pub next-place : (s : Slant) (start before after : Page) (left top l t : ℤ) (places : List (ℕ × ℕ)) (i : ℕ) (d : ℕ × ℕ) → l ≡ left → t ≡ top → i < length places
    → before ≡ painted start (seen s (places_from left top (take i places))) → after ≡ painted before (seen s (only (place_at l t places i d)))
    → after ≡ painted start (seen s (places_from left top (take (i + 1) places)))
next-place s start before after left top l t places i d across down few is next =
    laid-more start before after (seen s (places_from left top (take i places))) (seen s (only (place_at left top places i d))) (seen s (places_from left top (take (i + 1) places))) is
    (next ∙ ap₂ (λ x y. painted before (seen s (only (place_at x y places i d)))) across down)
    (λ u v. places-more left top places i d (paper_column s u v) (paper_row s u v) few)

pub next-place_seen_within : (s : Slant) (start before after : Page) (left top l t : ℤ) (zone : Pixels) (places : List (ℕ × ℕ)) (i : ℕ) (d : ℕ × ℕ) → l ≡ left → t ≡ top → i < length places
    → before ≡ painted start (seen s (within (places_from left top (take i places)) zone)) → after ≡ painted before (seen s (within (only (place_at l t places i d)) zone))
    → after ≡ painted start (seen s (within (places_from left top (take (i + 1) places)) zone))
next-place_seen_within s start before after left top l t zone places i d across down few is next =
    laid-more start before after (seen s (within (places_from left top (take i places)) zone)) (seen s (within (only (place_at left top places i d)) zone)) (seen s (within (places_from left top (take (i + 1) places)) zone)) is
    (next ∙ ap₂ (λ x y. painted before (seen s (within (only (place_at x y places i d)) zone))) across down)
    (λ u v. places-within-more left top zone places i d (paper_column s u v) (paper_row s u v) few)

pub next-place_within : (start before after : Page) (left top : ℤ) (zone : Pixels) (places : List (ℕ × ℕ)) (i : ℕ) (d : ℕ × ℕ) → i < length places
    → before ≡ painted start (within (places_from left top (take i places)) zone) → after ≡ painted before (within (only (place_at left top places i d)) zone)
    → after ≡ painted start (within (places_from left top (take (i + 1) places)) zone)
next-place_within start before after left top zone places i d few is next =
    laid-more start before after (within (places_from left top (take i places)) zone) (within (only (place_at left top places i d)) zone) (within (places_from left top (take (i + 1) places)) zone) is next
    (λ u v. places-within-more left top zone places i d u v few)

-- a place of the paper, where it is flipped in the scan
pub shown-laid : (s : Slant) (page after : Page) (p : Point) → after ≡ painted page (only (to_scan_of s p)) → after ≡ painted page (seen s (only p))
shown-laid s page after p is = laid-same page after (only (to_scan_of s p)) (seen s (only p)) is (seen-only s p)

-- the same, where it is in a zone of the paper
pub shown-laid_within : (s : Slant) (page after : Page) (p : Point) (zone : Pixels) → zone p.u p.v ≡ true → after ≡ painted page (only (to_scan_of s p))
    → after ≡ painted page (seen s (within (only p) zone))
shown-laid_within s page after p zone inside is =
    laid-same page after (only (to_scan_of s p)) (seen s (within (only p) zone)) is
    (λ u v. seen-only s p u v ∙ within-here p zone (paper_column s u v) (paper_row s u v) inside)

-- where it isn't, nothing is flipped
pub none-laid_within : (s : Slant) (page : Page) (p : Point) (zone : Pixels) → IsWhole page → zone p.u p.v ≡ false → page ≡ painted page (seen s (within (only p) zone))
none-laid_within s page p zone whole out =
    laid-none page (seen s (within (only p) zone)) whole (λ u v. within-not p zone (paper_column s u v) (paper_row s u v) out)

pub laid_within : (page after : Page) (p : Point) (zone : Pixels) → zone p.u p.v ≡ true → after ≡ painted page (only p) → after ≡ painted page (within (only p) zone)
laid_within page after p zone inside is = laid-same page after (only p) (within (only p) zone) is (λ u v. within-here p zone u v inside)

pub not-laid_within : (page : Page) (p : Point) (zone : Pixels) → IsWhole page → zone p.u p.v ≡ false → page ≡ painted page (within (only p) zone)
not-laid_within page p zone whole out = laid-none page (within (only p) zone) whole (λ u v. within-not p zone u v out)

-- the same, by what the code knows of the place
at_place : (p : Point) (u v : ℤ) → u ≡ p.u → v ≡ p.v → ◌≡◌ {A = Point} (record { u = u; v = v }) p
at_place p u v across down = same-point _ _ across down

pub shown-laid_at : (s : Slant) (page after : Page) (p r : Point) (u v : ℤ) → after ≡ painted page (only r) → r ≡ to_scan_of s (record { u = u; v = v }) → u ≡ p.u → v ≡ p.v
    → after ≡ painted page (seen s (only p))
shown-laid_at s page after p r u v laid is across down =
    shown-laid s page after p (laid ∙ ap (λ (q : Point). painted page (only q)) (is ∙ ap (to_scan_of s) (at_place p u v across down)))

pub shown-laid_within_at : (s : Slant) (page after : Page) (p r : Point) (u v : ℤ) (zone : Pixels) → zone u v ≡ true → after ≡ painted page (only r) → r ≡ to_scan_of s (record { u = u; v = v })
    → u ≡ p.u → v ≡ p.v → after ≡ painted page (seen s (within (only p) zone))
shown-laid_within_at s page after p r u v zone inside laid is across down =
    shown-laid_within s page after p zone (ap₂ zone (sym across) (sym down) ∙ inside) (laid ∙ ap (λ (q : Point). painted page (only q)) (is ∙ ap (to_scan_of s) (at_place p u v across down)))

pub none-laid_within_at : (s : Slant) (page : Page) (p : Point) (u v : ℤ) (zone : Pixels) → IsWhole page → zone u v ≡ false → u ≡ p.u → v ≡ p.v
    → page ≡ painted page (seen s (within (only p) zone))
none-laid_within_at s page p u v zone whole out across down = none-laid_within s page p zone whole (ap₂ zone (sym across) (sym down) ∙ out)

pub laid_within_at : (page after : Page) (p : Point) (u v : ℤ) (zone : Pixels) → zone u v ≡ true → after ≡ painted page (only (record { u = u; v = v })) → u ≡ p.u → v ≡ p.v
    → after ≡ painted page (within (only p) zone)
laid_within_at page after p u v zone inside is across down =
    laid_within page after p zone (ap₂ zone (sym across) (sym down) ∙ inside) (is ∙ ap (λ (q : Point). painted page (only q)) (at_place p u v across down))

pub not-laid_within_at : (page : Page) (p : Point) (u v : ℤ) (zone : Pixels) → IsWhole page → zone u v ≡ false → u ≡ p.u → v ≡ p.v → page ≡ painted page (within (only p) zone)
not-laid_within_at page p u v zone whole out across down = not-laid_within page p zone whole (ap₂ zone (sym across) (sym down) ∙ out)

-- places from a corner, by what the code knows of it
pub moved-corner : (s : Slant) (page after : Page) (l t left top : ℤ) (places : List (ℕ × ℕ)) → after ≡ painted page (seen s (places_from l t places)) → l ≡ left → t ≡ top
    → after ≡ painted page (seen s (places_from left top places))
moved-corner s page after l t left top places is across down = is ∙ ap₂ (λ x y. painted page (seen s (places_from x y places))) across down

pub moved-corner_within : (s : Slant) (page after : Page) (l t left top : ℤ) (zone : Pixels) (places : List (ℕ × ℕ)) → after ≡ painted page (seen s (within (places_from l t places) zone)) → l ≡ left → t ≡ top
    → after ≡ painted page (seen s (within (places_from left top places) zone))
moved-corner_within s page after l t left top zone places is across down = is ∙ ap₂ (λ x y. painted page (seen s (within (places_from x y places) zone))) across down
