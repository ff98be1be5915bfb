-- The rounds of a count of ranked ballots. Every round counts all ballots anew.
use Rattle.std.specs.Prelude.{◌*◌, ◌==◌, ◌&&◌, ◌||◌, ℕ, zero, suc, Bool, false, not, if◌then◌else◌, List, [], ◌∷◌, map, filter, find, reverse, count_by, sum_by, nat_lt, nat_le, Option, Some, None, is_some, is_none, option_map}
use Rattle.std.specs.List.{list_all, range_with_len}
use Rattle.std.specs.Option.{option_map_or}
use Rattle.vx_rounds.specs.declared.outcome.Round.{Round}
use Rattle.vx_rounds.specs.declared.outcome.Rounds.{Rounds}

-- the candidate that a ballot counts for: the first of its ranking that stands
abbrev pub choice_of : (ℕ → Bool) → List ℕ → Option ℕ
choice_of stands ranking = find stands ranking

-- a ballot counts for this candidate
abbrev pub is_for : (ℕ → Bool) → ℕ → List ℕ → Bool
is_for stands candidate ranking = option_map_or (λ choice. choice == candidate) (choice_of stands ranking) false

-- a ballot names no candidate that stands
abbrev pub is_exhausted : (ℕ → Bool) → List ℕ → Bool
is_exhausted stands ranking = is_none (choice_of stands ranking)

-- the standing candidates in ascending order, each with the ballots that count for it
abbrev pub counts_of : ℕ → (ℕ → Bool) → List (List ℕ) → List (ℕ × ℕ)
counts_of candidates stands rankings =
    map (λ candidate. (candidate, count_by (is_for stands candidate) rankings)) (filter stands (range_with_len 0 candidates))

-- the ballots that count for a candidate
abbrev pub total_of : List (ℕ × ℕ) → ℕ
total_of counts = sum_by (λ count. count.1) counts

-- the candidate for whom more than half of the ballots count that count at all
abbrev pub winner_of : List (ℕ × ℕ) → Option ℕ
winner_of counts = option_map (λ count. count.0) (find (λ count. nat_lt (total_of counts) (2 * count.1)) counts)

-- no candidate's count is less
abbrev pub is_least : List (ℕ × ℕ) → ℕ × ℕ → Bool
is_least counts count = list_all (λ other. nat_le count.1 other.1) counts

-- the candidate with the least count, of equal ones the one with the greatest number
abbrev pub last_of : List (ℕ × ℕ) → Option ℕ
last_of counts = option_map (λ count. count.0) (find (is_least counts) (reverse counts))

-- the candidate that goes out: none where no ballot counts, and none where one wins
abbrev pub out_of : List (ℕ × ℕ) → Option ℕ
out_of counts = if (total_of counts == 0) || is_some (winner_of counts) then None else last_of counts

-- the round in which these candidates stand
abbrev pub round_of : ℕ → (ℕ → Bool) → List (List ℕ) → Round
round_of candidates stands rankings = record {
  counts = counts_of candidates stands rankings;
  exhausted = count_by (is_exhausted stands) rankings;
  out = out_of (counts_of candidates stands rankings);
}

-- those that stand when one has gone out
abbrev pub without : (ℕ → Bool) → ℕ → ℕ → Bool
without stands out candidate = stands candidate && not (candidate == out)

-- a round, and the further ones where a candidate goes out in it
abbrev pub followed : Round → (ℕ → Rounds) → Option ℕ → Rounds
followed round further None = record { rounds = round ∷ []; winner = winner_of round.counts }
followed round further (Some out) = record { rounds = round ∷ (further out).rounds; winner = (further out).winner }

-- the rounds from the one in which these candidates stand, and at most so many: a candidate goes
-- out in each but the last, so as many as candidates are enough
unfoldable pub rounds_from : ℕ → ℕ → (ℕ → Bool) → List (List ℕ) → Rounds
rounds_from zero candidates stands rankings = record { rounds = []; winner = None }
rounds_from (suc more) candidates stands rankings =
    followed (round_of candidates stands rankings)
    (λ out. rounds_from more candidates (without stands out) rankings)
    (out_of (counts_of candidates stands rankings))

-- the rounds of a count: at first all candidates stand
abbrev pub rounds_of : ℕ → List (List ℕ) → Rounds
rounds_of candidates rankings = rounds_from candidates candidates (λ candidate. nat_lt candidate candidates) rankings
