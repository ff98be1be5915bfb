use Rattle.std.proofs.Common.{◌≡◌, ◌++◌, [], length, map, drop}
use Rattle.serde_json.specs.View.{view}
use Rattle.vx_tally.specs.Members.{each_of}
use Rattle.vx_tally.specs.Contests.{own_id_in}
use Rattle.vx_tally.proofs.contests.push_own_ids.Given as goal

abbrev pub invariant-loop-value : goal.invariant-loop-value
invariant-loop-value l = record {
  count : length l.found ≡ l.value-index;
  all_are : l.all ≡ l.initial.all ++ l.found;
  so_far : each_of (own_id_in l.path l.initial.all) l.found (map view (drop l.value-index l.values))
      ≡ each_of (own_id_in l.path l.initial.all) [] (map view l.values);
}
