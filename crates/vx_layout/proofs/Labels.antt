-- The sizes of texts that stand on every page.
use Rattle.std.proofs.Common.{◌≡◌, ℕ, ◌<◌, ◌≤◌, ◌^◌, [], ◌∷◌, ◌++◌, length, ap, refl, arith, lit<}
use Rattle.std.specs.Prelude.{codes}
use Rattle.std.specs.Str.{IsAscii, chars}
use Rattle.std.specs.Fmt.{decimal}
use Rattle.std.proofs.lemmas.Str.{chars-nil, chars-IsAscii}
use Rattle.std.proofs.lemmas.Str.Ascii.{IsAscii-cons}
use Rattle.std.proofs.lemmas.Fmt.{IsAscii-decimal, length-decimal-le}
use Rattle.vx_election_model.specs.declared.contest.Contest.{Contest}
use Rattle.vx_layout.specs.Lines.{size_of}
use Rattle.vx_layout.specs.Blocks.{seats_line}

-- the label of a write-in slot
pub size-write_in : size_of (codes "Write-in") ≡ 8
unfolding chars
size-write_in = refl

-- no text
pub size-nil : size_of [] ≡ 0
size-nil = ap length chars-nil

-- the line with the seats is ASCII
ascii-seats : (n : ℕ) → n < 2 ^ 64 → IsAscii (codes "Vote for " ++ decimal n)
ascii-seats n h =
    IsAscii-cons 86 (111 ∷ 116 ∷ 101 ∷ 32 ∷ 102 ∷ 111 ∷ 114 ∷ 32 ∷ decimal n) (lit< tt)
    (IsAscii-cons 111 (116 ∷ 101 ∷ 32 ∷ 102 ∷ 111 ∷ 114 ∷ 32 ∷ decimal n) (lit< tt)
    (IsAscii-cons 116 (101 ∷ 32 ∷ 102 ∷ 111 ∷ 114 ∷ 32 ∷ decimal n) (lit< tt)
    (IsAscii-cons 101 (32 ∷ 102 ∷ 111 ∷ 114 ∷ 32 ∷ decimal n) (lit< tt)
    (IsAscii-cons 32 (102 ∷ 111 ∷ 114 ∷ 32 ∷ decimal n) (lit< tt)
    (IsAscii-cons 102 (111 ∷ 114 ∷ 32 ∷ decimal n) (lit< tt)
    (IsAscii-cons 111 (114 ∷ 32 ∷ decimal n) (lit< tt)
    (IsAscii-cons 114 (32 ∷ decimal n) (lit< tt)
    (IsAscii-cons 32 (decimal n) (lit< tt)
    (IsAscii-decimal n h)))))))))

-- the line with the seats fits a row
pub size-seats : (contest : Contest) → contest.seats ≤ 50 → size_of (seats_line contest) ≤ 58
size-seats contest few =
    let small : contest.seats < 2 ^ 64 = omega arith in
    let digits : length (decimal contest.seats) ≤ 2 = length-decimal-le 2 contest.seats (lit< tt) (omega arith) small in
    let plain = ap length (chars-IsAscii (seats_line contest) (ascii-seats contest.seats small)) in
    omega (arith, plain)
