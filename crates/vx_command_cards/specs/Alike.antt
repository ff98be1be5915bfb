-- What `cards` tells of choices that look alike on paper.
use Rattle.std.specs.Prelude.{ℕ, ◌&&◌, nat_lt, List, [], ◌∷◌, length, codes, if◌then◌else◌}
use Rattle.std.specs.List.{flat_map, range_with_len}
use Rattle.vx_election_model.specs.declared.contest.Contest.{Contest}
use Rattle.vx_election_model.specs.declared.election.Election.{Election}
use Rattle.vx_layout.specs.Blocks.{label_at}
use Rattle.vx_command_cards.specs.Drawn.{look_alike}
use Rattle.vx_command_cards.specs.Lines.{with_blanks}
use Rattle.vx_command_cards.specs.Texts.{choice_id}

-- `alike CONTESTID OPTIONID OPTIONID`
abbrev pub alike_line : Contest → ℕ → ℕ → List ℕ
alike_line contest first second =
    with_blanks (codes "alike" ∷ contest.id ∷ choice_id contest first ∷ choice_id contest second ∷ [])

-- the line of two choices of which the second one stands behind the first, if what is printed of them looks alike
unfoldable pub pair_lines : Contest → ℕ → ℕ → List (List ℕ)
pair_lines contest first second =
    if nat_lt first second && look_alike (label_at contest first) (label_at contest second)
    then alike_line contest first second ∷ []
    else []

-- those of a choice with each
abbrev pub choice_pairs : Contest → ℕ → List (List ℕ)
choice_pairs contest first = flat_map (pair_lines contest first) (range_with_len 0 (length contest.choices))

-- those of all choices of a contest, in order
abbrev pub contest_pairs : Contest → List (List ℕ)
contest_pairs contest = flat_map (choice_pairs contest) (range_with_len 0 (length contest.choices))

-- of all contests, in order
unfoldable pub alike_lines : Election → List (List ℕ)
alike_lines election = flat_map contest_pairs election.contests
