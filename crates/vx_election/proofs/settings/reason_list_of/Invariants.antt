use Rattle.std.proofs.Common.{◌≡◌, [], map, drop}
use Rattle.serde_json.specs.View.{view}
use Rattle.vx_election.specs.Members.{each_of}
use Rattle.vx_election.specs.Settings.{next_reason_in}
use Rattle.vx_election.proofs.settings.reason_list_of.Given as goal

abbrev pub invariant-loop-value : goal.invariant-loop-value
invariant-loop-value l = each_of (next_reason_in l.path) l.reasons.items (map view (drop l.value-index l.values)) ≡ each_of (next_reason_in l.path) [] (map view l.values)
