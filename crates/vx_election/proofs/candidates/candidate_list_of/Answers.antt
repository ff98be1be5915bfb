use Rattle.std.proofs.Common.{◌≡◌, ◌++◌, ◌∷◌, [], Ok, rules, arith}
use Rattle.std.proofs.lemmas.Grind.{common_steps}
use Rattle.serde_json.specs.View.{view}
use Rattle.vx_election.specs.Contests.{candidate_in}
use Rattle.vx_election.proofs.Each.{each-turn}
use Rattle.vx_election.proofs.candidates.candidate_list_of.Goals as goal

pub loop-value-preserved : goal.loop-value-preserved
loop-value-preserved c =
    let found = c.loop-value.choices.items in
    let choice = c.in_ok-choice.choice in
    let items : c.push-in-loop-value.new.self.items ≡ found ++ choice ∷ [] = search rules in
    let gives : candidate_in c.args.parties.now c.args.path.now found (view c.value-item.result) ≡ Ok choice = search rules in
    let ids : c.push.new.self ≡ c.loop-value.ids ++ choice.id ∷ [] = search rules in
    record {
      count = search rules;
      same = grind (arith, common_steps);
      so_far = rw items (each-turn (candidate_in c.args.parties.now c.args.path.now) view found c.args.values.now c.loop-value.value-index c.value-item.result choice _ (search rules) c.value-item.is gives c.loop-value.invariant.so_far);
    }
