use Rattle.std.proofs.Common.{◌≡◌, [], length, map, drop}
use Rattle.serde_json.specs.View.{view}
use Rattle.vx_election.specs.Members.{each_of}
use Rattle.vx_election.specs.Contests.{contest_in}
use Rattle.vx_election_model.specs.Lists.{contest_ids}
use Rattle.vx_election.proofs.contests.contests_of.Given as goal

abbrev pub invariant-loop-value : goal.invariant-loop-value
invariant-loop-value l = record {
  count : length l.contests.items ≡ l.value-index;
  same : l.ids ≡ contest_ids l.contests.items;
  so_far : each_of (contest_in l.parties l.districts l.path) l.contests.items (map view (drop l.value-index l.values)) ≡ each_of (contest_in l.parties l.districts l.path) [] (map view l.values);
}
