use Rattle.std.proofs.Common.{◌≡◌, [], length, map, drop}
use Rattle.serde_json.specs.View.{view}
use Rattle.vx_tally.specs.Members.{each_of}
use Rattle.vx_tally.specs.Records.{row_in}
use Rattle.vx_tally.proofs.records.push_rows.Given as goal

abbrev pub invariant-loop-value : goal.invariant-loop-value
invariant-loop-value l = record {
  count : length l.rows ≡ l.value-index;
  so_far : each_of (row_in l.selections l.path) l.rows (map view (drop l.value-index l.values)) ≡ each_of (row_in l.selections l.path) [] (map view l.values);
}
