-- Numbers in a record: digits without a leading zero.
use Rattle.std.specs.Prelude.{ℕ, zero, suc, ◌+◌, ◌-◌, ◌*◌, ◌%◌, ◌==◌, ◌&&◌, ◌||◌, Bool, false, List, [], ◌∷◌, nat_le, nat_lt, if◌then◌else◌}
use Rattle.vx_json.specs.Reading.{is_within}
use Rattle.vx_records.specs.declared.numbers.Numbers.{Numbers}
use Rattle.vx_records.specs.declared.numbers.Numbers.TheVariants.{Between, Fronts}
use Rattle.vx_records.specs.Parts.{Read, found, stop}

-- a number may stand here
abbrev pub takes : Numbers → ℕ → Bool
takes (Between least most) n = is_within least most n
takes Fronts n = (n % 2 == 1) && nat_lt n 64

-- so many digits more lead from `first` to `last` into the range, or fewer
unfoldable pub reaches : ℕ → ℕ → ℕ → ℕ → ℕ → Bool
reaches zero least most first last = false
reaches (suc more) least most first last =
    nat_le first most && (nat_le least last || reaches more least most (10 * first) (10 * last + 9))

-- some number that may stand here is spelled by the digits of `n` and perhaps others behind them
abbrev pub begins : Numbers → ℕ → Bool
begins (Between least most) n = if n == 0 then least == 0 else reaches 6 least most n n
begins Fronts n = takes Fronts n || is_within 1 6 n

abbrev pub is_digit : ℕ → Bool
is_digit b = is_within 48 57 b

-- the number, where it may stand here
abbrev pub taken : Numbers → ℕ → List ℕ → Read ℕ
taken numbers n text = if takes numbers n then found n text else stop text

-- the digits behind those of `n`
unfoldable pub digits_in : Numbers → ℕ → List ℕ → Read ℕ
digits_in numbers n [] = taken numbers n []
digits_in numbers n (b ∷ text) =
    if is_digit b then
    (if nat_lt 0 n && begins numbers (10 * n + (b - 48))
    then digits_in numbers (10 * n + (b - 48)) text
    else stop (b ∷ text))
    else taken numbers n (b ∷ text)

unfoldable pub number_in : Numbers → List ℕ → Read ℕ
number_in numbers [] = stop []
number_in numbers (b ∷ text) =
    if is_digit b && begins numbers (b - 48) then digits_in numbers (b - 48) text else stop (b ∷ text)
