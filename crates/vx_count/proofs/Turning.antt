-- Laws of pages turned by 180 degrees.
use Rattle.std.proofs.Common.{◌≡◌, ℕ, zero, suc, ◌+◌, ◌-◌, ◌≤◌, Bool, true, false, not, ℤ, pos, ◌+ℤ◌, ◌-ℤ◌, refl, ap, ap₂, sym, subst, ◌∙◌, arith}
use Rattle.std.proofs.lemmas.Int.{ints}
use Rattle.vx_plane.specs.Plane.{Pixels, Page, dark_at}
use Rattle.vx_plane.specs.Count.{one_if, sum_from, count_in}
use Rattle.vx_plane.proofs.Counts.{count_in-by_rows, count_in-same}
use Rattle.vx_plane.proofs.Sums.{sum_from-same, sum_from-more}
use Rattle.vx_plane.proofs.Pages.{page_of-same, page_of-dark_at, dark_at-in_frame, dark_at-inside}
use Rattle.vx_count.specs.Turned.{turned, turned_page, IsWhole, shown_page}

-- a sum in the other order: the whole number z stands for last - z
pub sum_from-reversed : (low high last : ℤ) (n : ℕ) (f : ℤ → ℕ) → high +ℤ (low +ℤ pos n) ≡ last +ℤ pos 1 → sum_from low n (λ z. f (last -ℤ z)) ≡ sum_from high n f
sum_from-reversed low high last zero f e = refl
sum_from-reversed low high last (suc n) f e =
    let first : last -ℤ low ≡ high +ℤ pos n = omega (arith, ints) in
    let rest : sum_from (low +ℤ pos 1) n (λ z. f (last -ℤ z)) ≡ sum_from high n f = sum_from-reversed (low +ℤ pos 1) high last n f (omega (arith, ints)) in
    let more : n + 1 ≡ suc n = omega arith in
    let end : sum_from high (n + 1) f ≡ sum_from high n f + f (high +ℤ pos n) = sum_from-more high n f in
    let here : f (last -ℤ low) ≡ f (high +ℤ pos n) = ap f first in
    let step : f (last -ℤ low) + sum_from (low +ℤ pos 1) n (λ z. f (last -ℤ z)) ≡ sum_from high (n + 1) f = omega arith in
    step ∙ ap (λ k. sum_from high k f) more

-- a count of the places turned over both ways is the count of the rectangle at the other end
pub count_in-reversed : (left top right bottom across down : ℤ) (width height : ℕ) (set : Pixels) → right +ℤ (left +ℤ pos width) ≡ across +ℤ pos 1 → bottom +ℤ (top +ℤ pos height) ≡ down +ℤ pos 1 → count_in left top width height (λ u v. set (across -ℤ u) (down -ℤ v)) ≡ count_in right bottom width height set
count_in-reversed left top right bottom across down width height set e f =
    count_in-by_rows left top width height (λ u v. set (across -ℤ u) (down -ℤ v))
    ∙ sum_from-same top height _ (λ v. sum_from right width (λ u. one_if (set u (down -ℤ v)))) (λ v l h. sum_from-reversed left right across width (λ u. one_if (set u (down -ℤ v))) e)
    ∙ sum_from-reversed top bottom down height (λ v. sum_from right width (λ u. one_if (set u v))) f
    ∙ sym (count_in-by_rows right bottom width height set)

-- a count in a turned page is one in the page, in the rectangle at the opposite corner
pub turned-count : (page : Page) (left top width height : ℕ) → left + width ≤ page.width → top + height ≤ page.height → count_in (pos left) (pos top) width height (dark_at (turned_page page)) ≡ count_in (pos (page.width - left - width)) (pos (page.height - top - height)) width height (dark_at page)
turned-count page left top width height across down =
    count_in-same (pos left) (pos top) width height (dark_at (turned_page page)) (turned page.width page.height (dark_at page)) (λ u v p q l h.
    dark_at-in_frame page.width page.height (turned page.width page.height (dark_at page)) u v (omega (arith, ints)) (omega (arith, ints)) (omega (arith, ints)) (omega (arith, ints)))
    ∙ count_in-reversed (pos left) (pos top) (pos (page.width - left - width)) (pos (page.height - top - height)) (pos page.width -ℤ pos 1) (pos page.height -ℤ pos 1) width height (dark_at page) (omega (arith, ints)) (omega (arith, ints))

-- a page that is made of its dark places is as before when it is turned twice
pub turned-twice : (page : Page) → IsWhole page → turned_page (turned_page page) ≡ page
turned-twice page whole =
    page_of-same page.width page.height (turned page.width page.height (dark_at (turned_page page))) (dark_at page) (λ x y l h.
    let across : (pos page.width -ℤ pos 1) -ℤ pos x ≡ pos (page.width - 1 - x) = omega (arith, ints) in
    let down : (pos page.height -ℤ pos 1) -ℤ pos y ≡ pos (page.height - 1 - y) = omega (arith, ints) in
    let back_across : (pos page.width -ℤ pos 1) -ℤ pos (page.width - 1 - x) ≡ pos x = omega (arith, ints) in
    let back_down : (pos page.height -ℤ pos 1) -ℤ pos (page.height - 1 - y) ≡ pos y = omega (arith, ints) in
    ap₂ (dark_at (turned_page page)) across down
    ∙ dark_at-inside page.width page.height (page.width - 1 - x) (page.height - 1 - y) (turned page.width page.height (dark_at page)) (omega arith) (omega arith)
    ∙ ap₂ (dark_at page) back_across back_down)
    ∙ sym whole

-- a page that is shown the other way round is turned
pub turned-shown : (turned : Bool) (page : Page) → IsWhole page → shown_page (not turned) page ≡ turned_page (shown_page turned page)
turned-shown false page whole = refl
turned-shown true page whole = sym (turned-twice page whole)

-- what is shown has the page's frame, and is made of its dark places
pub shown-width : (turned : Bool) (page shown : Page) → shown_page turned page ≡ shown → page.width ≡ shown.width
shown-width false page shown e = ap (λ (p : Page). p.width) e
shown-width true page shown e = ap (λ (p : Page). p.width) e

pub shown-height : (turned : Bool) (page shown : Page) → shown_page turned page ≡ shown → page.height ≡ shown.height
shown-height false page shown e = ap (λ (p : Page). p.height) e
shown-height true page shown e = ap (λ (p : Page). p.height) e

pub shown-whole : (turned : Bool) (page shown : Page) → IsWhole page → shown_page turned page ≡ shown → IsWhole shown
shown-whole false page shown whole e = subst IsWhole e whole
shown-whole true page shown whole e = subst IsWhole e (sym (page_of-dark_at page.width page.height (turned page.width page.height (dark_at page))))

-- a count in a page that is shown turned, by what the code knows
pub shown-count : (turned : Bool) (page shown : Page) (left top width height columns rows count : ℕ) → turned ≡ true → shown_page turned page ≡ shown → columns ≡ page.width → rows ≡ page.height → left + width ≤ shown.width → top + height ≤ shown.height → count ≡ count_in (pos (columns - left - width)) (pos (rows - top - height)) width height (dark_at page) → count ≡ count_in (pos left) (pos top) width height (dark_at shown)
shown-count false page shown left top width height columns rows count is e wide high across down counted = absurd (cc)
shown-count true page shown left top width height columns rows count is e wide high across down counted =
    let same_wide : page.width ≡ shown.width = shown-width true page shown e in
    let same_high : page.height ≡ shown.height = shown-height true page shown e in
    counted
    ∙ ap₂ (λ w h. count_in (pos (w - left - width)) (pos (h - top - height)) width height (dark_at page)) wide high
    ∙ sym (turned-count page left top width height (omega arith) (omega arith))
    ∙ ap (λ (p : Page). count_in (pos left) (pos top) width height (dark_at p)) e
