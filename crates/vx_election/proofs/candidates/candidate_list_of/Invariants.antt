use Rattle.std.proofs.Common.{◌≡◌, [], length, map, drop}
use Rattle.serde_json.specs.View.{view}
use Rattle.vx_election.specs.Members.{each_of}
use Rattle.vx_election.specs.Contests.{candidate_in}
use Rattle.vx_election_model.specs.Lists.{choice_ids}
use Rattle.vx_election.proofs.candidates.candidate_list_of.Given as goal

abbrev pub invariant-loop-value : goal.invariant-loop-value
invariant-loop-value l = record {
  count : length l.choices.items ≡ l.value-index;
  same : l.ids ≡ choice_ids l.choices.items;
  so_far : each_of (candidate_in l.parties l.path) l.choices.items (map view (drop l.value-index l.values)) ≡ each_of (candidate_in l.parties l.path) [] (map view l.values);
}
