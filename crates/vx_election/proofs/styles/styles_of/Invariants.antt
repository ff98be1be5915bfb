use Rattle.std.proofs.Common.{◌≡◌, ◌*◌, ◌≤◌, [], length, map, drop}
use Rattle.serde_json.specs.View.{view}
use Rattle.vx_election.specs.Members.{each_of}
use Rattle.vx_election.specs.Styles.{style_in}
use Rattle.vx_election_model.specs.Lists.{style_ids, card_count}
use Rattle.vx_election.proofs.styles.styles_of.Given as goal

abbrev pub invariant-loop-value : goal.invariant-loop-value
invariant-loop-value l = record {
  count : length l.styles.items ≡ l.value-index;
  same : l.ids ≡ style_ids l.styles.items;
  cards : card_count l.styles.items ≤ 2000 * l.value-index;
  so_far : each_of (style_in l.parties l.districts l.precincts l.path) l.styles.items (map view (drop l.value-index l.values)) ≡ each_of (style_in l.parties l.districts l.precincts l.path) [] (map view l.values);
}
