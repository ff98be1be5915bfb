-- Two rows of characters look alike as far as they were compared.
use Rattle.std.proofs.Common.{◌≡◌, ◌<◌, ◌≤◌, ◌+◌, ℕ, Bool, true, false, List, [], ◌∷◌, length, max, refl, sym, ap, ◌∙◌, arith}
use Rattle.std.specs.List.{list_all, range_with_len}
use Rattle.std.proofs.lemmas.List.Folds.{list_all-append, list_all_at}
use Rattle.std.proofs.lemmas.List.FromFn.{length-range_with_len, get_or-range_with_len}
use Rattle.std.proofs.lemmas.Bool.{and_from}
use Rattle.std.specs.Prelude.{nat_lt}
use Rattle.vx_base.proofs.Booleans.{and-no}
use Rattle.vx_base.proofs.Numbers.{below-yes, below-no}
use Rattle.vx_base.proofs.Ranges.{range-more}
use Rattle.vx_election_model.specs.declared.contest.Contest.{Contest}
use Rattle.vx_layout.specs.Blocks.{label_at}
use Rattle.vx_command_cards.specs.Alike.{alike_line, pair_lines}
use Rattle.vx_command_cards.specs.Drawn.{is_same_cell, are_same_cells, look_alike}

-- a test that the first numbers pass, and the next one too
pub all-more : (test : ℕ → Bool) (n : ℕ) → list_all test (range_with_len 0 n) ≡ true → test n ≡ true → list_all test (range_with_len 0 (n + 1)) ≡ true
all-more test n before here =
    let at : 0 + n ≡ n = omega arith in
    ap (list_all test) (range-more 0 n)
    ∙ list_all-append test (range_with_len 0 n) ((0 + n) ∷ [])
    ∙ and_from (list_all test (range_with_len 0 n)) (list_all test ((0 + n) ∷ [])) before (and_from (test (0 + n)) true (ap test at ∙ here) refl)

-- a test that one of them doesn't pass
pub not-all : (test : ℕ → Bool) (n i : ℕ) → i < n → test i ≡ false → list_all test (range_with_len 0 n) ≡ false
not-all test n i low here =
    let at : 0 + i ≡ i = omega arith in
    list_all_at test (range_with_len 0 n) i 0 (omega (arith, length-range_with_len 0 n)) (ap test (get_or-range_with_len 0 n i 0 low ∙ at) ∙ here)

-- all cells are the same
pub all-same : (first second : List ℕ) (n : ℕ) → n ≡ max (length first) (length second) → list_all (is_same_cell first second) (range_with_len 0 n) ≡ true → are_same_cells first second ≡ true
unfolding are_same_cells
all-same first second n is all = ap (λ (k : ℕ). list_all (is_same_cell first second) (range_with_len 0 k)) (sym is) ∙ all

-- a cell isn't
pub not-same : (first second : List ℕ) (i : ℕ) → i < max (length first) (length second) → is_same_cell first second i ≡ false → are_same_cells first second ≡ false
unfolding are_same_cells
not-same first second i low here = not-all (is_same_cell first second) (max (length first) (length second)) i low here

-- the line of two choices, if the second stands behind the first and looks alike
pub pair-before : (contest : Contest) (first second : ℕ) → second ≤ first → pair_lines contest first second ≡ []
unfolding pair_lines
pair-before contest first second low = rw (below-no first second low) refl

pub pair-alike : (contest : Contest) (first second : ℕ) → first < second → look_alike (label_at contest first) (label_at contest second) ≡ true → pair_lines contest first second ≡ alike_line contest first second ∷ []
unfolding pair_lines
pair-alike contest first second low same = rw (below-yes first second low, same) refl

pub pair-other : (contest : Contest) (first second : ℕ) → look_alike (label_at contest first) (label_at contest second) ≡ false → pair_lines contest first second ≡ []
unfolding pair_lines
pair-other contest first second other =
    rw (and-no (nat_lt first second) (look_alike (label_at contest first) (label_at contest second)) other) refl
