-- What `ranked` writes: of each group how many sheets have a ranking and how many wait, then a line for each round and
-- one for the candidate that goes out in it, and last who won. This project's own text.
use Rattle.std.specs.Prelude.{ℕ, ◌+◌, List, [], ◌∷◌, ◌++◌, length, codes, slice_get, Option, Some, None}
use Rattle.std.specs.List.{flat_map}
use Rattle.std.specs.Option.{option_map_or}
use Rattle.std.specs.Fmt.{decimal}
use Rattle.vx_election_model.specs.declared.choice.Choice.{Choice}
use Rattle.vx_election_model.specs.declared.contest.Contest.{Contest}
use Rattle.vx_election_model.specs.declared.election.Election.{Election}
use Rattle.vx_events.specs.declared.event.Event.{Event}
use Rattle.vx_rounds.specs.declared.outcome.Round.{Round}
use Rattle.vx_rounds.specs.declared.outcome.Rounds.{Rounds}
use Rattle.vx_rounds.specs.Rounds.{rounds_of}
use Rattle.vx_ranked.specs.declared.groups.Group.{Group}
use Rattle.vx_ranked.specs.declared.sheets.SheetRankings.{SheetRankings}
use Rattle.vx_ranked.specs.Rankings.{group_ranked}

-- the candidates of a contest, if there is one
abbrev pub choices_in : Option Contest → List Choice
choices_in None = []
choices_in (Some contest) = contest.choices

-- the candidates of ranked contests are those of the first rank's
abbrev pub choices_of : Election → List ℕ → List Choice
choices_of election [] = []
choices_of election (first ∷ further) = choices_in (slice_get election.contests first)

-- a candidate's id
abbrev pub id_of : List Choice → ℕ → List ℕ
id_of choices candidate = option_map_or (λ (choice : Choice). choice.id) (slice_get choices candidate) []

-- `ranked ID ballots N waiting W`
abbrev pub group_line : List ℕ → ℕ → ℕ → List ℕ
group_line id ballots waiting =
    codes "ranked " ++ id ++ codes " ballots " ++ decimal ballots ++ codes " waiting " ++ decimal waiting ++ 10 ∷ []

-- ` CANDIDATEID COUNT`
abbrev pub count_text : List Choice → ℕ × ℕ → List ℕ
count_text choices count = 32 ∷ id_of choices count.0 ++ 32 ∷ decimal count.1

-- `round R`, each standing candidate with its count, and ` exhausted X`
abbrev pub round_line : List Choice → ℕ → Round → List ℕ
round_line choices number round =
    codes "round " ++ decimal number ++ flat_map (count_text choices) round.counts
    ++ codes " exhausted " ++ decimal round.exhausted ++ 10 ∷ []

-- `out CANDIDATEID` where one goes out
abbrev pub out_line : List Choice → Option ℕ → List ℕ
out_line choices None = []
out_line choices (Some candidate) = codes "out " ++ id_of choices candidate ++ 10 ∷ []

-- the lines of rounds, the first of which has this number
abbrev pub round_lines : List Choice → ℕ → List Round → List ℕ
round_lines choices number [] = []
round_lines choices number (round ∷ rounds) =
    round_line choices number round ++ out_line choices round.out ++ round_lines choices (number + 1) rounds

-- `winner CANDIDATEID`, or `no winner`
abbrev pub winner_line : List Choice → Option ℕ → List ℕ
winner_line choices None = codes "no winner" ++ 10 ∷ []
winner_line choices (Some candidate) = codes "winner " ++ id_of choices candidate ++ 10 ∷ []

-- a count in rounds, numbered from 1, and who won it
abbrev pub rounds_text : List Choice → Rounds → List ℕ
rounds_text choices counted = round_lines choices 1 counted.rounds ++ winner_line choices counted.winner

-- what is written of a group with these candidates, of which the sheets of a count rank this
unfoldable pub group_text : List ℕ → List Choice → SheetRankings → List ℕ
group_text id choices ranked =
    group_line id (length ranked.rankings) ranked.waiting
    ++ rounds_text choices (rounds_of (length choices) ranked.rankings)

-- what is written of a group by the kept events
abbrev pub told_of : Election → List Event → Group → List ℕ
told_of election kept group =
    group_text group.id (choices_of election group.contests) (group_ranked election kept group)

-- what is written of all groups, in their order
unfoldable pub ranked_text : Election → List Event → List Group → List ℕ
ranked_text election kept groups = flat_map (told_of election kept) groups
