use Rattle.std.proofs.Common.{◌≡◌, [], length, map, drop}
use Rattle.serde_json.specs.View.{view}
use Rattle.vx_tally.specs.Members.{each_of}
use Rattle.vx_tally.specs.Contests.{contest_ids, own_selections}
use Rattle.vx_tally.specs.Records.{record_in, unique_ids}
use Rattle.vx_tally.proofs.records.push_records.Given as goal

abbrev pub invariant-loop-value : goal.invariant-loop-value
invariant-loop-value l = record {
  count : length l.records ≡ l.value-index;
  same : l.uniques ≡ unique_ids l.records;
  so_far : each_of (record_in l.units (contest_ids l.contests) (own_selections l.contests) l.path) l.records (map view (drop l.value-index l.values))
      ≡ each_of (record_in l.units (contest_ids l.contests) (own_selections l.contests) l.path) [] (map view l.values);
}
