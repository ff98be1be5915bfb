-- How many draws are enough.
use Rattle.std.specs.Prelude.{ℕ, Bool, replicate, find, Option}
use Rattle.std.specs.List.{range_with_len}
use Rattle.vx_risk.specs.Bound.{is_at_most}

-- the most draws that are looked at
unfoldable pub most_draws : ℕ
most_draws = 10000

-- so many draws are enough where none has an overstatement
abbrev pub are_enough : ℕ → ℕ → ℕ → ℕ → Bool
are_enough records margin limit draws = is_at_most records margin (replicate draws 0) limit

-- the least number of draws that is enough
abbrev pub enough_of : ℕ → ℕ → ℕ → Option ℕ
enough_of records margin limit = find (are_enough records margin limit) (range_with_len 1 most_draws)
