use Rattle.std.proofs.Common.{take}
use Rattle.std.specs.List.{flat_map}
use Rattle.vx_audit.specs.Found.{Finds, pair_lines}
use Rattle.vx_audit.specs.Pairs.{pairs_at_place}
use Rattle.vx_audit.proofs.comparing.Findings.take_places.Given as goal

abbrev pub invariant-loop-place : goal.invariant-loop-place
invariant-loop-place l =
    Finds (pair_lines (flat_map (pairs_at_place l.contests l.hand l.at l.one) (take l.place-index l.places)))
    (flat_map (pairs_at_place l.contests l.hand l.at l.one) (take l.place-index l.places)) l.initial.self l.self
