-- Laws of counts in rectangles.
use Rattle.std.proofs.Common.{◌≡◌, ℕ, ◌+◌, ◌*◌, ◌≤◌, le_trans, mul-le-mul, Bool, true, false, not, ◌||◌, ℤ, pos, ◌+ℤ◌, ◌≤ℤ◌, ◌<ℤ◌, refl, ap, sym, ◌∙◌, arith}
use Rattle.vx_plane.specs.Plane.{Pixels, union}
use Rattle.vx_plane.specs.Count.{one_if, sum_from, count_in, outside_of}
use Rattle.vx_plane.proofs.Sums.{sum_from-same, sum_from-le, sum_from-parts, sum_from-more, sum_from-moved, sum_from-add, sum_from-same_number, sum_from-orders}

-- the number of places of the set in one row
abbrev pub row_count : ℤ → ℤ → ℕ → Pixels → ℕ
row_count left v width set = sum_from left width (λ u. one_if (set u v))

pub one_if-le : (a b : Bool) → (a ≡ true → b ≡ true) → one_if a ≤ one_if b
one_if-le true b h = let e : b ≡ true = h refl in rw e (omega arith)
one_if-le false b h = omega arith

pub one_if-below : (a : Bool) → one_if a ≤ 1
one_if-below true = omega arith
one_if-below false = omega arith

-- a count is the sum of its rows' counts
pub count_in-by_rows : (left top : ℤ) (width height : ℕ) (set : Pixels) → count_in left top width height set ≡ sum_from top height (λ v. sum_from left width (λ u. one_if (set u v)))
unfolding count_in
count_in-by_rows left top width height set = refl

-- a count is the sum of its columns' counts
pub count_in-by_columns : (left top : ℤ) (width height : ℕ) (set : Pixels) → count_in left top width height set ≡ sum_from left width (λ u. sum_from top height (λ v. one_if (set u v)))
count_in-by_columns left top width height set = count_in-by_rows left top width height set ∙ sum_from-orders left top width height (λ u v. one_if (set u v))

-- two sets that agree in the rectangle have the same count there
pub count_in-same : (left top : ℤ) (width height : ℕ) (a b : Pixels) → ((u v : ℤ) → left ≤ℤ u → u <ℤ (left +ℤ pos width) → top ≤ℤ v → v <ℤ (top +ℤ pos height) → a u v ≡ b u v) → count_in left top width height a ≡ count_in left top width height b
unfolding count_in
count_in-same left top width height a b same =
    sum_from-same top height _ _ (λ v l h. sum_from-same left width _ _ (λ u p q. ap one_if (same u v p q l h)))

-- a set that holds another in the rectangle has at least its count
pub count_in-le : (left top : ℤ) (width height : ℕ) (a b : Pixels) → ((u v : ℤ) → left ≤ℤ u → u <ℤ (left +ℤ pos width) → top ≤ℤ v → v <ℤ (top +ℤ pos height) → a u v ≡ true → b u v ≡ true) → count_in left top width height a ≤ count_in left top width height b
unfolding count_in
count_in-le left top width height a b within =
    sum_from-le top height _ _ (λ v l h. sum_from-le left width _ _ (λ u p q. one_if-le (a u v) (b u v) (within u v p q l h)))

-- a rectangle cut between two rows
pub count_in-rows : (left top : ℤ) (width m n : ℕ) (set : Pixels) → count_in left top width (m + n) set ≡ count_in left top width m set + count_in left (top +ℤ pos m) width n set
unfolding count_in
count_in-rows left top width m n set = sum_from-parts top m n (λ v. sum_from left width (λ u. one_if (set u v)))

-- one row more at the bottom
pub count_in-row_more : (left top : ℤ) (width height : ℕ) (set : Pixels) → count_in left top width (height + 1) set ≡ count_in left top width height set + row_count left (top +ℤ pos height) width set
unfolding count_in
count_in-row_more left top width height set = sum_from-more top height (λ v. sum_from left width (λ u. one_if (set u v)))

-- a rectangle cut between two columns
pub count_in-columns : (left top : ℤ) (m n height : ℕ) (set : Pixels) → count_in left top (m + n) height set ≡ count_in left top m height set + count_in (left +ℤ pos m) top n height set
unfolding count_in
count_in-columns left top m n height set =
    sum_from-same top height _ _ (λ v l h. sum_from-parts left m n (λ u. one_if (set u v)))
    ∙ sum_from-add top height (λ v. sum_from left m (λ u. one_if (set u v))) (λ v. sum_from (left +ℤ pos m) n (λ u. one_if (set u v)))

-- a rectangle moved along
pub count_in-moved : (left top du dv : ℤ) (width height : ℕ) (set : Pixels) → count_in (left +ℤ du) (top +ℤ dv) width height set ≡ count_in left top width height (λ u v. set (u +ℤ du) (v +ℤ dv))
unfolding count_in
count_in-moved left top du dv width height set =
    sum_from-moved top dv height (λ v. sum_from (left +ℤ du) width (λ u. one_if (set u v)))
    ∙ sum_from-same top height _ _ (λ v l h. sum_from-moved left du width (λ u. one_if (set u (v +ℤ dv))))

-- nothing in the rectangle counts 0
pub count_in-none : (left top : ℤ) (width height : ℕ) (set : Pixels) → ((u v : ℤ) → left ≤ℤ u → u <ℤ (left +ℤ pos width) → top ≤ℤ v → v <ℤ (top +ℤ pos height) → set u v ≡ false) → count_in left top width height set ≡ 0
unfolding count_in
count_in-none left top width height set none =
    sum_from-same top height _ (λ v. 0) (λ v l h. sum_from-same left width _ (λ u. 0) (λ u p q. ap one_if (none u v p q l h)) ∙ sum_from-same_number left width 0 ∙ omega arith)
    ∙ sum_from-same_number top height 0 ∙ omega arith

-- every place of the rectangle counts its area
pub count_in-all : (left top : ℤ) (width height : ℕ) (set : Pixels) → ((u v : ℤ) → left ≤ℤ u → u <ℤ (left +ℤ pos width) → top ≤ℤ v → v <ℤ (top +ℤ pos height) → set u v ≡ true) → count_in left top width height set ≡ height * width
unfolding count_in
count_in-all left top width height set all =
    sum_from-same top height _ (λ v. width) (λ v l h. sum_from-same left width _ (λ u. 1) (λ u p q. ap one_if (all u v p q l h)) ∙ sum_from-same_number left width 1 ∙ omega arith)
    ∙ sum_from-same_number top height width

-- a row's count is at most the width
pub row_count-le : (left v : ℤ) (width : ℕ) (set : Pixels) → row_count left v width set ≤ width
row_count-le left v width set =
    let most : row_count left v width set ≤ sum_from left width (λ u. 1) = sum_from-le left width _ _ (λ u p q. one_if-below (set u v)) in
    omega (arith, sum_from-same_number left width 1)

-- a count is at most the area
pub count_in-le_area : (left top : ℤ) (width height : ℕ) (set : Pixels) → count_in left top width height set ≤ height * width
unfolding count_in
count_in-le_area left top width height set =
    let most : count_in left top width height set ≤ sum_from top height (λ v. width) = sum_from-le top height _ _ (λ v l h. row_count-le left v width set) in
    let e : sum_from top height (λ v. width) ≡ height * width = sum_from-same_number top height width in
    rw e at most

-- an empty rectangle counts 0
pub count_in-no_rows : (left top : ℤ) (width : ℕ) (set : Pixels) → count_in left top width 0 set ≡ 0
unfolding count_in
count_in-no_rows left top width set = refl

pub count_in-no_columns : (left top : ℤ) (height : ℕ) (set : Pixels) → count_in left top 0 height set ≡ 0
unfolding count_in
count_in-no_columns left top height set = sum_from-same_number top height 0 ∙ omega arith

-- two counts as one sum over the rectangle
both : (left top : ℤ) (width height : ℕ) (a b : Pixels) → count_in left top width height a + count_in left top width height b ≡ sum_from top height (λ v. sum_from left width (λ u. one_if (a u v) + one_if (b u v)))
unfolding count_in
both left top width height a b =
    sym (sum_from-add top height (λ v. sum_from left width (λ u. one_if (a u v))) (λ v. sum_from left width (λ u. one_if (b u v))))
    ∙ sum_from-same top height _ _ (λ v l h. sym (sum_from-add left width (λ u. one_if (a u v)) (λ u. one_if (b u v))))

one_of_two : (a : Bool) → one_if a + one_if (not a) ≡ 1
one_of_two true = refl
one_of_two false = refl

-- what is in the set and what isn't are the whole rectangle
pub count_in-complement : (left top : ℤ) (width height : ℕ) (set : Pixels) → count_in left top width height set + count_in left top width height (outside_of set) ≡ height * width
count_in-complement left top width height set =
    both left top width height set (outside_of set)
    ∙ sum_from-same top height _ (λ v. width) (λ v l h. sum_from-same left width _ (λ u. 1) (λ u p q. one_of_two (set u v)) ∙ sum_from-same_number left width 1 ∙ omega arith)
    ∙ sum_from-same_number top height width

union_at_most : (a b : Bool) → one_if (a || b) ≤ one_if a + one_if b
union_at_most true b = omega arith
union_at_most false b = omega arith

union_apart : (a b : Bool) → (a ≡ true → b ≡ false) → one_if a + one_if b ≡ one_if (a || b)
union_apart true b h = let e : b ≡ false = h refl in rw e refl
union_apart false b h = omega arith

-- a union has at most the sum of the counts
pub count_in-union_le : (left top : ℤ) (width height : ℕ) (a b : Pixels) → count_in left top width height (union a b) ≤ count_in left top width height a + count_in left top width height b
unfolding count_in
count_in-union_le left top width height a b =
    let most : count_in left top width height (union a b) ≤ sum_from top height (λ v. sum_from left width (λ u. one_if (a u v) + one_if (b u v))) = sum_from-le top height _ _ (λ v l h. sum_from-le left width _ _ (λ u p q. union_at_most (a u v) (b u v))) in
    let e : count_in left top width height a + count_in left top width height b ≡ sum_from top height (λ v. sum_from left width (λ u. one_if (a u v) + one_if (b u v))) = both left top width height a b in
    rw e most

-- a union of sets that share nothing in the rectangle has the sum of the counts
pub count_in-union_apart : (left top : ℤ) (width height : ℕ) (a b : Pixels) → ((u v : ℤ) → left ≤ℤ u → u <ℤ (left +ℤ pos width) → top ≤ℤ v → v <ℤ (top +ℤ pos height) → a u v ≡ true → b u v ≡ false) → count_in left top width height (union a b) ≡ count_in left top width height a + count_in left top width height b
count_in-union_apart left top width height a b apart =
    sym (both left top width height a b
    ∙ (sum_from-same top height _ _ (λ v l h. sum_from-same left width _ _ (λ u p q. union_apart (a u v) (b u v) (apart u v p q l h)))
    ∙ sym (count_in-by_rows left top width height (union a b))))

not_one : (b : Bool) → one_if b ≤ 0 → b ≡ false
not_one true h = absurd (omega arith)
not_one false h = refl

-- a rectangle of one place
pub count_in-one : (u v : ℤ) (set : Pixels) → count_in u v 1 1 set ≡ one_if (set u v)
unfolding count_in
count_in-one u v set = omega arith

-- a count is at most the area, for rectangles of bounded sides
pub count_in-bound : (left top : ℤ) (width height w h : ℕ) (set : Pixels) → width ≤ w → height ≤ h → count_in left top width height set ≤ h * w
count_in-bound left top width height w h set a b = le_trans (count_in-le_area left top width height set) (mul-le-mul b a)
