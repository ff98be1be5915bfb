use Rattle.std.proofs.Common.{◌≡◌, [], length, map, drop}
use Rattle.serde_json.specs.View.{view}
use Rattle.vx_tally.specs.Members.{each_of}
use Rattle.vx_tally.specs.Contests.{contest_ids, own_selections}
use Rattle.vx_tally.specs.Records.{counted_in, counted_places}
use Rattle.vx_tally.proofs.records.push_counted.Given as goal

abbrev pub invariant-loop-value : goal.invariant-loop-value
invariant-loop-value l = record {
  count : length l.counted ≡ l.value-index;
  same : l.found ≡ counted_places l.counted;
  so_far : each_of (counted_in (contest_ids l.contests) (own_selections l.contests) l.path) l.counted (map view (drop l.value-index l.values))
      ≡ each_of (counted_in (contest_ids l.contests) (own_selections l.contests) l.path) [] (map view l.values);
}
