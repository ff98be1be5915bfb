use Rattle.std.proofs.Common.{◌≡◌, [], map, drop}
use Rattle.serde_json.specs.View.{view}
use Rattle.vx_election.specs.Members.{each_of}
use Rattle.vx_election.specs.Parts.{next_reference_in}
use Rattle.vx_election.proofs.references.references_of.Given as goal

abbrev pub invariant-loop-value : goal.invariant-loop-value
invariant-loop-value l = each_of (next_reference_in l.path l.ids) l.found.items (map view (drop l.value-index l.values)) ≡ each_of (next_reference_in l.path l.ids) [] (map view l.values)
