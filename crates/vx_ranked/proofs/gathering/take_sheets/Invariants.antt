use Rattle.std.proofs.Common.{◌≡◌, map, take}
use Rattle.vx_center.specs.Sheets.{sheets_in}
use Rattle.vx_ranked.specs.Rankings.{ranked_by}
use Rattle.vx_ranked.proofs.gathering.take_sheets.Given as goal

abbrev pub invariant-loop-place : goal.invariant-loop-place
invariant-loop-place l =
    l.ranked.items ≡ map (ranked_by l.center.election l.center.events (take l.place (sheets_in l.center.events))) l.groups
