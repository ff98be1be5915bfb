use Rattle.std.proofs.Common.{◌≡◌, [], length, map, drop}
use Rattle.serde_json.specs.View.{view}
use Rattle.vx_election.specs.Members.{each_of}
use Rattle.vx_election.specs.Parts.{named_in}
use Rattle.vx_election.proofs.directory.directory_of.Given as goal

abbrev pub invariant-loop-value : goal.invariant-loop-value
invariant-loop-value l = record {
  count : length l.directory ≡ l.value-index;
  so_far : each_of (named_in l.path) l.directory (map view (drop l.value-index l.values)) ≡ each_of (named_in l.path) [] (map view l.values);
}
