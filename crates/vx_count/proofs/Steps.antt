-- The steps of a count: some columns more of a row, one row more of a rectangle.
use Rattle.std.proofs.Common.{◌≡◌, ℕ, ◌+◌, ◌-◌, ◌*◌, ◌/◌, ◌%◌, ◌≤◌, pos, refl, ap, ap₂, sym, ◌∙◌, arith}
use Rattle.vx_plane.specs.Plane.{Pixels, Page, dark_at}
use Rattle.vx_plane.specs.Count.{count_in}
use Rattle.vx_plane.proofs.Counts.{count_in-columns, count_in-rows, count_in-bound}

-- a row's count of m columns, and of n more, is that of all of them
pub more_columns : (left right row m n all dark more : ℕ) (set : Pixels) → dark ≡ count_in (pos left) (pos row) m 1 set → more ≡ count_in (pos right) (pos row) n 1 set → right ≡ left + m → all ≡ m + n → dark + more ≡ count_in (pos left) (pos row) all 1 set
more_columns left right row m n all dark more set e f next whole =
    ap₂ (λ (a b : ℕ). a + b) e (f ∙ ap (λ z. count_in (pos z) (pos row) n 1 set) next)
    ∙ sym (count_in-columns (pos left) (pos row) m n 1 set)
    ∙ ap (λ k. count_in (pos left) (pos row) k 1 set) (sym whole)

-- one row more
pub more_rows : (left top width n dark more : ℕ) (set : Pixels) → dark ≡ count_in (pos left) (pos top) width n set → more ≡ count_in (pos left) (pos (top + n)) width 1 set → dark + more ≡ count_in (pos left) (pos top) width (n + 1) set
more_rows left top width n dark more set e f =
    ap₂ (λ (a b : ℕ). a + b) e f ∙ sym (count_in-rows (pos left) (pos top) width n 1 set)

-- a row's count is at most its columns
pub row_fits : (left row n dark : ℕ) (set : Pixels) → dark ≡ count_in (pos left) (pos row) n 1 set → dark ≤ n
row_fits left row n dark set e = omega (arith, count_in-bound (pos left) (pos row) n 1 n 1 set (omega arith) (omega arith))

-- a rectangle of at most 4096 pixels each way
pub rows_fit : (left top width n dark : ℕ) (set : Pixels) → dark ≡ count_in (pos left) (pos top) width n set → width ≤ 4096 → n ≤ 4096 → dark ≤ 4096 * 4096
rows_fit left top width n dark set e h k = omega (arith, count_in-bound (pos left) (pos top) width n 4096 4096 set h k)

-- the columns of a row before a place: whole blocks, then whole words
pub block_and_words : (row x block words : ℕ) (rows page : Page) → rows ≡ page → block ≡ count_in (pos 0) (pos row) (1024 * (x / 1024)) 1 (dark_at page) → words ≡ count_in (pos (x / 1024 * 1024)) (pos row) (64 * (x % 1024 / 64)) 1 (dark_at rows) → block + words ≡ count_in (pos 0) (pos row) (x - x % 64) 1 (dark_at page)
block_and_words row x block words rows page same e f =
    more_columns 0 (x / 1024 * 1024) row (1024 * (x / 1024)) (64 * (x % 1024 / 64)) (x - x % 64) block words (dark_at page) e
    (rw same at f) (omega arith) (omega arith)

-- and the columns of the word that the place lies in
pub and_rest : (row x dark rest : ℕ) (rows page : Page) → rows ≡ page → dark ≡ count_in (pos 0) (pos row) (x - x % 64) 1 (dark_at page) → rest ≡ count_in (pos (x - x % 64)) (pos row) (x % 64) 1 (dark_at rows) → dark + rest ≡ count_in (pos 0) (pos row) x 1 (dark_at page)
and_rest row x dark rest rows page same e f =
    more_columns 0 (x - x % 64) row (x - x % 64) (x % 64) x dark rest (dark_at page) e
    (rw same at f) (omega arith) (omega arith)

-- what is before a place and not before an earlier one lies between them
pub between : (left width row all less : ℕ) (set : Pixels) → all ≡ count_in (pos 0) (pos row) (left + width) 1 set → less ≡ count_in (pos 0) (pos row) left 1 set → all ≡ less + count_in (pos left) (pos row) width 1 set
between left width row all less set e f =
    e ∙ sym (more_columns 0 left row left width (left + width) less _ set f refl (omega arith) refl)
