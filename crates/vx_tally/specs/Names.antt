-- Names of members, each under a word of its own, which no proof spells out.
use Rattle.std.specs.Prelude.{ℕ, List, codes}

-- the selections of a contest of the election
unfoldable pub contest_selection : List ℕ
contest_selection = codes "ContestSelection"

-- the unit of a record
unfoldable pub ballot_style_unit_id : List ℕ
ballot_style_unit_id = codes "BallotStyleUnitId"

-- the snapshots of a record
unfoldable pub cvr_snapshot : List ℕ
cvr_snapshot = codes "CVRSnapshot"

-- the contests of a snapshot
unfoldable pub cvr_contest : List ℕ
cvr_contest = codes "CVRContest"

-- the undervotes of a contest of a record
unfoldable pub undervotes : List ℕ
undervotes = codes "Undervotes"

-- the selections of a contest of a record
unfoldable pub cvr_contest_selection : List ℕ
cvr_contest_selection = codes "CVRContestSelection"

-- the selection that votes are for
unfoldable pub contest_selection_id : List ℕ
contest_selection_id = codes "ContestSelectionId"

-- how a selection counts
unfoldable pub selection_position : List ℕ
selection_position = codes "SelectionPosition"

-- the votes for a selection
unfoldable pub number_votes : List ℕ
number_votes = codes "NumberVotes"
