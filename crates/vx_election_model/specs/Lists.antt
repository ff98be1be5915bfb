-- What an election's lists have: ids, and cards.
use Rattle.std.specs.Prelude.{ℕ, List, length, map, sum_by}
use Rattle.vx_election_model.specs.declared.named.Named.{Named}
use Rattle.vx_election_model.specs.declared.choice.Choice.{Choice}
use Rattle.vx_election_model.specs.declared.contest.Contest.{Contest}
use Rattle.vx_election_model.specs.declared.style.Style.{Style}

-- the ids of a list
abbrev pub named_ids : List Named → List (List ℕ)
named_ids list = map (λ named. named.id) list

-- the ids of a contest's choices
abbrev pub choice_ids : List Choice → List (List ℕ)
choice_ids choices = map (λ choice. choice.id) choices

-- the ids of the contests
abbrev pub contest_ids : List Contest → List (List ℕ)
contest_ids contests = map (λ contest. contest.id) contests

-- the ids of the styles
abbrev pub style_ids : List Style → List (List ℕ)
style_ids styles = map (λ style. style.id) styles

-- one card for each style and each of its precincts
abbrev pub card_count : List Style → ℕ
card_count styles = sum_by (λ style. length style.precincts) styles
