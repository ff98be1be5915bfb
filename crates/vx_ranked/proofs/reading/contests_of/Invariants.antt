use Rattle.std.proofs.Common.{◌≡◌, [], length, map, drop}
use Rattle.serde_json.specs.View.{view}
use Rattle.vx_ranked.specs.Reading.{each_of, contest_in}
use Rattle.vx_ranked.proofs.reading.contests_of.Given as goal

abbrev pub invariant-loop-value : goal.invariant-loop-value
invariant-loop-value l = record {
  count : length l.found ≡ l.value-index;
  so_far : each_of (contest_in l.election l.groups l.path) l.found (map view (drop l.value-index l.values))
      ≡ each_of (contest_in l.election l.groups l.path) [] (map view l.values);
}
