use Rattle.std.proofs.Common.{◌≡◌, ◌++◌, drop, map}
use Rattle.serde_json.specs.View.{view}
use Rattle.vx_board.specs.Contests.{contest_data}
use Rattle.vx_board.proofs.contests.contests_value.Given as goal

-- what was made, and what is left to make, are all
abbrev pub invariant-loop-contest : goal.invariant-loop-contest
invariant-loop-contest l = map view l.made.items ++ map contest_data (drop l.contest-index l.contests) ≡ map contest_data l.contests
