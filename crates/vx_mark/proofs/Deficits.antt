-- Deficits row by row.
use Rattle.std.proofs.Common.{◌≡◌, ◌+◌, ◌-◌, ◌≤◌, ℕ, pos, ◌+ℤ◌, ◌-ℤ◌, arith, ap, sym, ◌∙◌}
use Rattle.std.proofs.lemmas.Int.{ints}
use Rattle.std.specs.Prelude.{IsTrue, nat_le}
use Rattle.std.proofs.lemmas.Bool.Decides.{nat_tests}
use Rattle.vx_plane.specs.Plane.{Page, dark_at}
use Rattle.vx_plane.specs.Count.{count_in, outside_of}
use Rattle.vx_plane.proofs.Counts.{count_in-rows, count_in-columns, count_in-complement}
use Rattle.vx_mark_model.specs.Mark.{core_light, deficit_of}
use Rattle.vx_mark.specs.Search.{place_in, row_light, front_light, IsUpTo}

pub less_by : (n k : ℕ) → k ≤ n → pos (n - k) ≡ pos n -ℤ pos k
less_by n k h = omega (arith, ints)

pub more_by : (n k : ℕ) → pos (n + k) ≡ pos n +ℤ pos k
more_by n k = omega (arith, ints)

-- one row more
pub front_light-more : (page : Page) (u v j : ℕ) → front_light page u v (j + 1) ≡ front_light page u v j + row_light page u ((v - 5) + j)
front_light-more page u v j =
    let set = outside_of (dark_at page) in
    count_in-rows (pos u -ℤ pos 17) (pos (v - 5)) 34 j 1 set
    ∙ ap (λ z. front_light page u v j + count_in (pos u -ℤ pos 17) z 34 1 set) (sym (more_by (v - 5) j))

-- ten rows are the core
pub front_light-all : (page : Page) (u v : ℕ) → 5 ≤ v → front_light page u v 10 ≡ core_light page (place_in u v)
front_light-all page u v h = ap (λ z. count_in (pos u -ℤ pos 17) z 34 10 (outside_of (dark_at page))) (less_by v 5 h)

-- fewer rows have no more
pub front_light-le : (page : Page) (u v j k : ℕ) → j + k ≡ 10 → 5 ≤ v → front_light page u v j ≤ core_light page (place_in u v)
front_light-le page u v j k all h =
    let set = outside_of (dark_at page) in
    let parts : front_light page u v (j + k) ≡ front_light page u v j + count_in (pos u -ℤ pos 17) (pos (v - 5) +ℤ pos j) 34 k set = count_in-rows (pos u -ℤ pos 17) (pos (v - 5)) 34 j k set in
    let whole : front_light page u v (j + k) ≡ front_light page u v 10 = ap (front_light page u v) all in
    omega (arith, front_light-all page u v h)

-- the first and the last row of a core have no more than the deficit
pub first_row-le : (page : Page) (u v : ℕ) → 5 ≤ v → row_light page u (v - 5) ≤ deficit_of page (place_in u v)
first_row-le page u v h = omega (arith, front_light-le page u v 1 9 (omega arith) h)

pub last_row-le : (page : Page) (u v : ℕ) → 5 ≤ v → row_light page u (v + 4) ≤ deficit_of page (place_in u v)
last_row-le page u v h =
    let at : (v - 5) + 9 ≡ v + 4 = omega arith in
    let row : row_light page u ((v - 5) + 9) ≡ row_light page u (v + 4) = ap (row_light page u) at in
    omega (arith, front_light-more page u v 9, front_light-all page u v h)

-- a run with few dark pixels leaves many light ones in each part
pub run-light : (page : Page) (left row dark below u k m width : ℕ) → dark ≡ count_in (pos left) (pos row) width 1 (dark_at page) → width ≡ k + (34 + m) → left + k ≡ u - 17 → 17 ≤ u → dark + below ≤ 34 → below ≤ row_light page u row
run-light page left row dark below u k m width is wide at room few =
    let set = dark_at page in
    let here : count_in (pos left) (pos row) width 1 set ≡ count_in (pos left) (pos row) (k + (34 + m)) 1 set = ap (λ n. count_in (pos left) (pos row) n 1 set) wide in
    let place : pos left +ℤ pos k ≡ pos u -ℤ pos 17 = omega (arith, ints) in
    let moved : count_in (pos left +ℤ pos k) (pos row) 34 1 set ≡ count_in (pos u -ℤ pos 17) (pos row) 34 1 set = ap (λ z. count_in z (pos row) 34 1 set) place in
    omega (
      arith,
      count_in-columns (pos left) (pos row) k (34 + m) 1 set,
      count_in-columns (pos left +ℤ pos k) (pos row) 34 m 1 set,
      count_in-complement (pos u -ℤ pos 17) (pos row) 34 1 set,
    )

pub le-up_to : (below part n : ℕ) → part ≤ n → below ≤ part → IsUpTo below n part
le-up_to below part n le most = record { exact = λ less. absurd (omega arith); reached = λ more. omega arith }

-- a test that two numbers are in order
pub le-told : (a b : ℕ) → IsTrue (nat_le a b) → a ≤ b
le-told a b h = grind (arith, nat_tests)
