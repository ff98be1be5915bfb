use Rattle.std.proofs.Common.{◌≡◌, [], length, map, drop}
use Rattle.serde_json.specs.View.{view}
use Rattle.vx_tally.specs.Members.{each_of}
use Rattle.vx_tally.specs.Contests.{selection_ids, contest_in}
use Rattle.vx_tally.proofs.contests.push_contests.Given as goal

abbrev pub invariant-loop-value : goal.invariant-loop-value
invariant-loop-value l = record {
  count : length l.directory ≡ l.value-index;
  all_are : l.all ≡ selection_ids l.directory;
  so_far : each_of (contest_in l.path) l.directory (map view (drop l.value-index l.values)) ≡ each_of (contest_in l.path) [] (map view l.values);
}
