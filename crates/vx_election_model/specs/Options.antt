-- The options of a contest.
use Rattle.std.specs.Prelude.{ℕ, ◌+◌, length, if◌then◌else◌}
use Rattle.vx_election_model.specs.declared.contest.Contest.{Contest}

-- the choices, and one write-in slot for each seat where write-ins are allowed
abbrev pub options_of : Contest → ℕ
options_of contest = length contest.choices + (if contest.write_ins then contest.seats else 0)
