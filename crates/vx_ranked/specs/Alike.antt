-- Which contests can be ranked, and which are alike.
use Rattle.std.specs.Prelude.{ℕ, ◌&&◌, ◌==◌, Bool, true, false, not, List, length, nat_lt, bytes_eq, position, slice_get, Option, Some, None}
use Rattle.std.specs.Cmp.Lexicographic.{pointwise}
use Rattle.std.specs.Option.{option_map_or}
use Rattle.vx_election_model.specs.declared.contest.Contest.{Contest}
use Rattle.vx_election_model.specs.Lists.{choice_ids}

-- the place of the first contest with an id
abbrev pub place_of : List Contest → List ℕ → Option ℕ
place_of contests id = position (λ (contest : Contest). bytes_eq contest.id id) contests

-- a contest of candidates with one seat, no write-ins and at least one candidate
abbrev pub can_be_ranked : Contest → Bool
can_be_ranked contest =
    not contest.is_yes_no && (contest.seats == 1) && not contest.write_ins && nat_lt 0 (length contest.choices)

-- both have no party, or both the same
abbrev pub have_same_party : Option ℕ → Option ℕ → Bool
have_same_party None None = true
have_same_party None (Some other) = false
have_same_party (Some party) None = false
have_same_party (Some party) (Some other) = party == other

-- two contests have the same candidate ids in the same order, one district and one party
abbrev pub are_alike : Contest → Contest → Bool
are_alike one other =
    pointwise bytes_eq (choice_ids one.choices) (choice_ids other.choices)
    && (one.district == other.district) && have_same_party one.party other.party

-- a contest is like the first of its group, unless it is the first itself
abbrev pub is_like_first : List Contest → Option ℕ → Contest → Bool
is_like_first contests None contest = true
is_like_first contests (Some first) contest = option_map_or (λ one. are_alike one contest) (slice_get contests first) false

-- the contest at a place can stand behind those of its group
abbrev pub fits_group : List Contest → List ℕ → ℕ → Bool
fits_group contests found place =
    option_map_or (λ contest. can_be_ranked contest && is_like_first contests (slice_get found 0) contest)
    (slice_get contests place) false
