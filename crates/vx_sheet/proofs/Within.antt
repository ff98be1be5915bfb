-- A contest outside a span has no bubble.
use Rattle.std.proofs.Common.{◌≡◌, ℕ, ◌+◌, ◌<◌, ◌≤◌, ◌||◌, ◌==◌, Bool, false, List, [], ◌∷◌, length, get_or, take, refl, ap, sym, ◌∙◌, arith}
use Rattle.std.proofs.lemmas.List.Elements.{All-head, All-tail, All-more, All-weaker}
use Rattle.vx_base.proofs.Numbers.{equal-no}
use Rattle.vx_layout.specs.declared.bubbles.Bubble.{Bubble}
use Rattle.vx_sheet.specs.declared.marks.Span.{Span}
use Rattle.vx_sheet.specs.Sheet.{has_bubble}
use Rattle.vx_sheet.specs.Spans.{IsWithin, AreWithin}

-- bubbles within a span are within a wider one
pub within-wider : (one other : Span) (bubbles : List Bubble) → other.least ≤ one.least → one.greatest ≤ other.greatest → AreWithin one bubbles → AreWithin other bubbles
within-wider one other bubbles low high within =
    All-weaker (IsWithin one) (IsWithin other) (λ bubble is. (omega (arith, is.0), omega (arith, is.1))) bubbles within

-- a bubble more is within a span that takes it in
pub within-more : (one other : Span) (bubbles : List Bubble) (k : ℕ) (none : Bubble) → k < length bubbles → other.least ≤ one.least → one.greatest ≤ other.greatest
    → other.least ≤ (get_or bubbles k none).contest → (get_or bubbles k none).contest ≤ other.greatest → AreWithin one (take k bubbles) → AreWithin other (take (k + 1) bubbles)
within-more one other bubbles k none there low high from to within =
    All-more (IsWithin other) bubbles k none there (within-wider one other (take k bubbles) low high within) (from, to)

-- a contest that isn't any bubble's has none
not-one : (contest : ℕ) (bubble : Bubble) (bubbles : List Bubble) → (bubble.contest == contest) ≡ false → has_bubble contest bubbles ≡ false → has_bubble contest (bubble ∷ bubbles) ≡ false
not-one contest bubble bubbles apart rest = ap (λ b. b || has_bubble contest bubbles) apart ∙ rest

-- a contest below a span has none of its bubbles
pub none-below : (span : Span) (contest : ℕ) (bubbles : List Bubble) → contest < span.least → AreWithin span bubbles → has_bubble contest bubbles ≡ false
none-below span contest [] small within = refl
none-below span contest (bubble ∷ bubbles) small within =
    let head = All-head (IsWithin span) bubble bubbles within in
    not-one contest bubble bubbles (equal-no bubble.contest contest (λ e. omega (arith, small, head.0, e)))
    (none-below span contest bubbles small (All-tail (IsWithin span) bubble bubbles within))

-- nor one above it
pub none-above : (span : Span) (contest : ℕ) (bubbles : List Bubble) → span.greatest < contest → AreWithin span bubbles → has_bubble contest bubbles ≡ false
none-above span contest [] large within = refl
none-above span contest (bubble ∷ bubbles) large within =
    let head = All-head (IsWithin span) bubble bubbles within in
    not-one contest bubble bubbles (equal-no bubble.contest contest (λ e. omega (arith, large, head.1, e)))
    (none-above span contest bubbles large (All-tail (IsWithin span) bubble bubbles within))

-- a contest that is on neither page is on none
pub on-neither : (front back : Bool) → front ≡ false → back ≡ false → false ≡ (front || back)
on-neither front back one other = sym (ap (λ b. b || back) one ∙ other)
