use Rattle.std.proofs.Common.{◌≡◌, ◌++◌, drop, map}
use Rattle.std.specs.List.{flat_map}
use Rattle.vx_board.specs.Ballots.{ballot_of}
use Rattle.vx_board.specs.Data.{ballot_line}
use Rattle.vx_board.proofs.data.push_ballots.Given as goal

-- what was written, and what is left to write, are all
abbrev pub invariant-loop-place : goal.invariant-loop-place
invariant-loop-place l =
    l.text ++ flat_map (ballot_line (map ballot_of l.rows)) (drop l.place-index l.places)
    ≡ l.fn.text ++ flat_map (ballot_line (map ballot_of l.rows)) l.places
