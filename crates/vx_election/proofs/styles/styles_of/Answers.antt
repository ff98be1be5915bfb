use Rattle.std.proofs.Common.{◌≡◌, ◌++◌, ◌+◌, ◌∷◌, [], length, Ok, rules, arith}
use Rattle.std.proofs.lemmas.Grind.{common_steps}
use Rattle.vx_election_model.specs.declared.style.Style.{Style}
use Rattle.serde_json.specs.View.{view}
use Rattle.vx_election.specs.Styles.{style_in}
use Rattle.vx_election_model.specs.Lists.{card_count}
use Rattle.std.proofs.lemmas.List.Sums.{sum_by_push}
use Rattle.vx_election.proofs.Each.{each-turn}
use Rattle.vx_election.proofs.styles.styles_of.Goals as goal

pub loop-value-preserved : goal.loop-value-preserved
loop-value-preserved c =
    let found = c.loop-value.styles.items in
    let style = c.in_ok-style.style in
    let items : c.push-in-loop-value.new.self.items ≡ found ++ style ∷ [] = search rules in
    let gives : style_in c.args.parties.now c.args.districts.now c.args.precincts.now c.args.path.now found (view c.value-item.result) ≡ Ok style = search rules in
    let ids : c.push.new.self ≡ c.loop-value.ids ++ style.id ∷ [] = search rules in
    record {
      count = search rules;
      same = grind (arith, common_steps);
      cards = (let grown : card_count (found ++ style ∷ []) ≡ card_count found + length style.precincts = sum_by_push (λ (s : Style). length s.precincts) found style in rw items (omega (arith, grown, c.loop-value.invariant.cards, c.in_ok-style.ensures.few)));
      so_far = rw items (each-turn (style_in c.args.parties.now c.args.districts.now c.args.precincts.now c.args.path.now) view found c.args.values.now c.loop-value.value-index c.value-item.result style _ (search rules) c.value-item.is gives c.loop-value.invariant.so_far);
    }
