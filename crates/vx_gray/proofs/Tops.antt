-- Laws of the greatest of some numbers, and of the greatest value near a tile.
use Rattle.std.proofs.Common.{◌&&◌, Bool, true, false, nat_lt, ◌≡◌, ◌+◌, ◌-◌, ◌*◌, ◌<◌, ◌≤◌, ℕ, zero, suc, min, max, cond, List, [], ◌∷◌, length, take, drop, get_or, refl, inl, inr, ap, ap₂, sym, subst, ◌∙◌, ◌++◌, arith, add-one, length-take, length-drop}
use Rattle.std.proofs.Math.Nat.{le-max_left, le-max_right, max-le, max-zero}
use Rattle.std.proofs.Math.Seq.{take-append_seam, get_or-append_seam}
use Rattle.std.proofs.lemmas.Bool.{cases_lt, lt-ltb, le-ltb}
use Rattle.std.proofs.lemmas.List.{get_or_past, get_or-take, get_or-drop, get_or_append_left}
use Rattle.vx_gray.specs.Gray.{Gray, value_at, greatest, column_top, near_start, near_size, top_of}
use Rattle.vx_gray.specs.Near.{IsRaised, AreColumnTops}

-- one number more
pub greatest_more : (n : ℕ) (f : ℕ → ℕ) → greatest (n + 1) f ≡ max (greatest n f) (f n)
greatest_more n f = ap (λ m. greatest m f) (add-one n)

-- the same numbers
pub greatest-same : (n : ℕ) (f g : ℕ → ℕ) → ((i : ℕ) → i < n → f i ≡ g i) → greatest n f ≡ greatest n g
greatest-same zero f g same = refl
greatest-same (suc n) f g same = ap₂ max (greatest-same n f g (λ i h. same i (omega arith))) (same n (omega arith))

-- none of them is greater
pub greatest_bound : (n b : ℕ) (f : ℕ → ℕ) → ((i : ℕ) → i < n → f i ≤ b) → greatest n f ≤ b
greatest_bound zero b f each = omega arith
greatest_bound (suc n) b f each = max-le (greatest_bound n b f (λ i h. each i (omega arith))) (each n (omega arith))

pub greatest_reached : (n i : ℕ) (f : ℕ → ℕ) → i < n → f i ≤ greatest n f
greatest_reached zero i f h = absurd (omega arith)
greatest_reached (suc n) i f h =
    let here : f n ≤ max (greatest n f) (f n) = le-max_right (greatest n f) (f n) in
    let before : greatest n f ≤ max (greatest n f) (f n) = le-max_left (greatest n f) (f n) in
    elim (cases_lt i n) [
      | inl l ↦ omega (arith, greatest_reached n i f l)
      | inr l ↦ let same : f i ≡ f n = ap f (omega arith) in omega arith
    ]

-- the greatest of some numbers and of those behind them
pub greatest-add : (m k : ℕ) (f : ℕ → ℕ) → greatest (m + k) f ≡ max (greatest m f) (greatest k (λ i. f (m + i)))
greatest-add m zero f = ap (λ n. greatest n f) (omega arith) ∙ sym (max-zero (greatest m f))
greatest-add m (suc k) f =
    let last : m + suc k ≡ m + k + 1 = omega arith in
    ap (λ n. greatest n f) last
    ∙ (greatest_more (m + k) f
    ∙ (ap (λ x. max x (f (m + k))) (greatest-add m k f) ∙ omega arith))

-- numbers that are 0 at the end don't count
pub greatest-cut : (m k : ℕ) (f : ℕ → ℕ) → ((i : ℕ) → m ≤ i → i < m + k → f i ≡ 0) → greatest (m + k) f ≡ greatest m f
greatest-cut m zero f none = ap (λ n. greatest n f) (omega arith)
greatest-cut m (suc k) f none =
    let last : m + suc k ≡ m + k + 1 = omega arith in
    ap (λ n. greatest n f) last
    ∙ (greatest_more (m + k) f
    ∙ (ap (λ x. max (greatest (m + k) f) x) (none (m + k) (omega arith) (omega arith))
    ∙ (max-zero (greatest (m + k) f)
    ∙ greatest-cut m k f (λ i a b. none i a (omega arith)))))

pub greatest-cut_at : (m n : ℕ) (f : ℕ → ℕ) → m ≤ n → ((i : ℕ) → m ≤ i → i < n → f i ≡ 0) → greatest n f ≡ greatest m f
greatest-cut_at m n f within none =
    let whole : n ≡ m + (n - m) = omega arith in
    ap (λ k. greatest k f) whole ∙ greatest-cut m (n - m) f (λ i a b. none i a (omega arith))

-- the value in the frame, and beside and under it
pub value_inside : (gray : Gray) (u v : ℕ) → u < gray.width → v < gray.height → value_at gray u v ≡ get_or gray.values (v * gray.width + u) 0
value_inside gray u v h k = ap₂ (λ s t. cond (s && t) (get_or gray.values (v * gray.width + u) 0) 0) (lt-ltb u gray.width h) (lt-ltb v gray.height k)

pub value_beside : (gray : Gray) (u v : ℕ) → gray.width ≤ u → value_at gray u v ≡ 0
value_beside gray u v h = ap (λ t. cond (t && nat_lt v gray.height) (get_or gray.values (v * gray.width + u) 0) 0) (le-ltb u gray.width h)

neither : (s : Bool) (x : ℕ) → cond (s && false) x 0 ≡ 0
neither true x = refl
neither false x = refl

pub value_under : (gray : Gray) (u v : ℕ) → gray.height ≤ v → value_at gray u v ≡ 0
value_under gray u v h =
    ap (λ t. cond (nat_lt u gray.width && t) (get_or gray.values (v * gray.width + u) 0) 0) (le-ltb v gray.height h)
    ∙ neither (nat_lt u gray.width) (get_or gray.values (v * gray.width + u) 0)

-- a column beside the frame
pub column_beside : (gray : Gray) (first rows u : ℕ) → gray.width ≤ u → column_top gray first rows u ≡ 0
column_beside gray first zero u h = refl
column_beside gray first (suc rows) u h =
    ap₂ max (column_beside gray first rows u h) (value_beside gray u (first + rows) h)

-- rows under the frame don't count
pub column-cut : (gray : Gray) (first rows all u : ℕ) → rows ≤ all → rows ≡ min (first + all) gray.height - first
    → column_top gray first all u ≡ column_top gray first rows u
column-cut gray first rows all u within is =
    greatest-cut_at rows all (λ j. value_at gray u (first + j)) within
    (λ i a b. value_under gray u (first + i) (omega arith))

-- a row's values are those of the page
pub row_value : (gray : Gray) (v u : ℕ) → u < gray.width → v < gray.height
    → get_or (take gray.width (drop (v * gray.width) gray.values)) u 0 ≡ value_at gray u v
row_value gray v u h k =
    get_or-take gray.width (drop (v * gray.width) gray.values) u 0 h
    ∙ get_or-drop (v * gray.width) gray.values u 0
    ∙ sym (value_inside gray u v h k)

-- the greatest of a tile's columns and its neighbours', cut at the frame
pub top_is : (gray : Gray) (down across start end : ℕ) (tops : List ℕ) → AreColumnTops gray (near_start down) (near_size down) tops
    → start ≡ near_start across → end ≡ min (64 * (across + 2)) gray.width → start ≤ end → greatest (length (take (end - start) (drop start tops)))
    (λ i. get_or (take (end - start) (drop start tops)) i 0) ≡ top_of gray across down
unfolding top_of
top_is gray down across start end tops are starts ends order =
    let long : length (take (end - start) (drop start tops)) ≡ end - start = omega
    (arith, length-take (end - start) (drop start tops), length-drop start tops, are.size) in
    let column : ℕ → ℕ = λ i. column_top gray (near_start down) (near_size down) (near_start across + i) in
    ap (λ n. greatest n (λ i. get_or (take (end - start) (drop start tops)) i 0)) long
    ∙ (greatest-same (end - start) (λ i. get_or (take (end - start) (drop start tops)) i 0) column
    (λ i h.
    get_or-take (end - start) (drop start tops) i 0 h
    ∙ (get_or-drop start tops i 0
    ∙ (are.values (start + i)
    ∙ ap (λ s. column_top gray (near_start down) (near_size down) (s + i)) starts)))
    ∙ sym (greatest-cut_at (end - start) (near_size across) column (omega arith)
    (λ i a b. column_beside gray (near_start down) (near_size down) (near_start across + i) (omega arith))))

-- the tops of a row more
pub tops_more : (gray : Gray) (first v n : ℕ) (old seen row new : List ℕ) → first ≤ v → v < gray.height → AreColumnTops gray first (v - first) old
    → seen ≡ old → row ≡ take gray.width
    (drop (v * gray.width) gray.values) → length new ≡ length seen → n ≡ length old → IsRaised seen row new → AreColumnTops gray first
    (v + 1 - first) (take n (new ++ drop (length new) old))
tops_more gray first v n old seen row new order inside are same is long all raised =
    let one : v + 1 - first ≡ v - first + 1 = omega arith in
    let here : first + (v - first) ≡ v = omega arith in
    subst (AreColumnTops gray first (v + 1 - first)) (sym (ap (λ k. take k (new ++ drop (length new) old)) (all ∙ sym (long ∙ ap length same))
    ∙ take-append_seam new (drop (length new) old)))
    (record {
      size = long ∙ ap length same ∙ are.size;
      values = λ u.
          raised u
          ∙ (ap₂ max (ap (λ s. get_or s u 0) same ∙ are.values u) (elim (cases_lt u gray.width) [
            | inl h ↦ ap (λ r. get_or r u 0) is ∙ row_value gray v u h inside
            | inr h ↦ get_or_past row u 0 (omega (arith, ap length is, length-take gray.width (drop (v * gray.width) gray.values)))
                ∙ sym (value_beside gray u v h)
          ] ∙ ap (value_at gray u) (sym here))
          ∙ (sym (greatest_more (v - first) (λ j. value_at gray u (first + j)))
          ∙ ap (λ k. column_top gray first k u) (sym one)));
    })

-- the tops of the rows of a band, cut at the frame
pub tops_all : (gray : Gray) (first all v : ℕ) (tops : List ℕ) → v - first ≡ min (first + all) gray.height - first
    → AreColumnTops gray first (v - first) tops → AreColumnTops gray first all tops
tops_all gray first all v tops end are = record {
  size = are.size;
  values = λ u. are.values u ∙ sym (column-cut gray first (v - first) all u (omega arith) end);
}

-- the tops of some rows, raised by those of the rows below them
pub tops_joined : (gray : Gray) (first rows start more all n : ℕ) (old seen below lower new : List ℕ) → start ≡ first + rows → all ≡ rows + more
    → AreColumnTops gray first rows old → seen ≡ old → AreColumnTops gray start more below → lower ≡ below → length new ≡ length seen
    → n ≡ length seen → IsRaised seen lower new → AreColumnTops gray first all (take n (new ++ drop (length new) old))
tops_joined gray first rows start more all n old seen below lower new starts whole are same behind is long size raised =
    subst (AreColumnTops gray first all) (sym (ap (λ k. take k (new ++ drop (length new) old)) (size ∙ sym long)
    ∙ take-append_seam new (drop (length new) old)))
    (record {
      size = long ∙ ap length same ∙ are.size;
      values = λ u.
          raised u
          ∙ (ap₂ max (ap (λ s. get_or s u 0) same ∙ are.values u)
          (ap (λ s. get_or s u 0) is
          ∙ (behind.values u
          ∙ greatest-same more (λ j. value_at gray u (start + j)) (λ j. value_at gray u (first + (rows + j)))
          (λ j h. ap (value_at gray u) (omega arith))))
          ∙ (sym (greatest-add rows more (λ j. value_at gray u (first + j)))
          ∙ ap (λ k. column_top gray first k u) (sym whole)));
    })

-- one tile's number more
pub halves_more : (f : ℕ → ℕ) (n half : ℕ) (halves : List ℕ) → length halves ≡ n → half ≡ f n → ((a : ℕ) → a < n → get_or halves a 0 ≡ f a) → (a : ℕ)
    → a < n + 1 → get_or (halves ++ half ∷ []) a 0 ≡ f a
halves_more f n half halves long is so_far a h = elim (cases_lt a n) [
  | inl l ↦ get_or_append_left halves (half ∷ []) 0 a (omega arith) ∙ so_far a l
  | inr l ↦
      let last : a ≡ length halves = omega arith in
      ap (λ i. get_or (halves ++ half ∷ []) i 0) last
      ∙ (get_or-append_seam halves half [] 0 ∙ (is ∙ ap f (omega arith)))
]
