use Rattle.std.proofs.Common.{◌≡◌, [], length, map, drop}
use Rattle.serde_json.specs.View.{view}
use Rattle.vx_election.specs.Members.{each_of}
use Rattle.vx_election.specs.Parts.{next_new_reference_in}
use Rattle.vx_election.proofs.references.new_references_of.Given as goal

abbrev pub invariant-loop-value : goal.invariant-loop-value
invariant-loop-value l = record {
  count : length l.found ≡ l.value-index;
  so_far : each_of (next_new_reference_in l.path l.ids) l.found (map view (drop l.value-index l.values)) ≡ each_of (next_new_reference_in l.path l.ids) [] (map view l.values);
}
