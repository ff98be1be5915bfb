-- How a contest stands by the votes of its choices and of its write-in slots, which together are one more loser.
use Rattle.std.specs.Prelude.{ℕ, ◌-◌, Bool, true, false, not, if◌then◌else◌, List, filter, count_by, fold, nat_lt, nat_le, min, max, Option, Some, None}
use Rattle.std.specs.List.{reduce}
use Rattle.vx_sampling.specs.declared.standing.Standing.{Standing}
use Rattle.vx_sampling.specs.declared.standing.Standing.TheVariants.{Tie, WriteIn, Margin}

-- a test, or its contrary
abbrev pub is_as : Bool → Bool → Bool
is_as true passes = passes
is_as false passes = not passes

module _ (seats : ℕ) (votes : List ℕ) where
  -- a choice wins where fewer choices have more votes than there are seats
  abbrev pub wins : ℕ → Bool
  wins own = nat_lt (count_by (λ other. nat_lt own other) votes) seats

  -- the votes of the choices that win, or of those that lose
  abbrev pub votes_where : Bool → List ℕ
  votes_where winning = filter (λ own. is_as winning (wins own)) votes

  -- two at the edge of the seats have the same votes: more choices win than there are seats
  abbrev pub is_tied : Bool
  is_tied = nat_lt seats (count_by wins votes)

-- the margin by the least votes of a winner, the slots' votes, and the most votes of a loser, of which the slots are one;
-- none where the slots reach a winner or there is no winner
abbrev pub by_least : ℕ → ℕ → Option ℕ → Standing
by_least slots most None = WriteIn
by_least slots most (Some least) = if nat_le least slots then WriteIn else Margin (least - most)

-- how a contest with so many seats stands
abbrev pub standing_of : ℕ → List ℕ → ℕ → Standing
standing_of seats votes slots =
    if is_tied seats votes then Tie
    else by_least slots (fold max slots (votes_where seats votes false)) (reduce min (votes_where seats votes true))
