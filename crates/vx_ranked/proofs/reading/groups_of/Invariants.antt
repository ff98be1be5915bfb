use Rattle.std.proofs.Common.{◌≡◌, [], length, map, drop}
use Rattle.std.specs.Prelude.{codes}
use Rattle.serde_json.specs.View.{view}
use Rattle.vx_ranked.specs.Reading.{each_of, group_in}
use Rattle.vx_ranked.proofs.reading.groups_of.Given as goal

abbrev pub invariant-loop-one : goal.invariant-loop-one
invariant-loop-one l = record {
  count : length l.groups ≡ l.one-index;
  so_far : each_of (group_in l.election (codes "ranked")) l.groups (map view (drop l.one-index l.list))
      ≡ each_of (group_in l.election (codes "ranked")) [] (map view l.list);
}
