use Rattle.std.proofs.Common.{◌≡◌, ◌+◌, drop, map, take}
use Rattle.vx_center.specs.Sheets.{sheets_in}
use Rattle.vx_ranked.specs.Rankings.{ranked_by}
use Rattle.vx_ranked.proofs.gathering.take_row.Given as goal

-- the groups so far have taken the sheet, and those that are left haven't
abbrev pub invariant-loop-index : goal.invariant-loop-index
invariant-loop-index l = record {
  taken : take l.index l.ranked.items
      ≡ map (ranked_by l.center.election l.center.events (take (l.place + 1) (sheets_in l.center.events)))
      (take l.index l.groups);
  left : drop l.index l.ranked.items
      ≡ map (ranked_by l.center.election l.center.events (take l.place (sheets_in l.center.events))) (drop l.index l.groups);
}
