use Rattle.std.proofs.Common.{◌≡◌, ◌++◌, ◌∷◌, [], Ok, rules, arith}
use Rattle.std.proofs.lemmas.Grind.{common_steps}
use Rattle.serde_json.specs.View.{view}
use Rattle.vx_election.specs.Contests.{contest_in}
use Rattle.vx_election.proofs.Each.{each-turn}
use Rattle.vx_election.proofs.contests.contests_of.Goals as goal

pub loop-value-preserved : goal.loop-value-preserved
loop-value-preserved c =
    let found = c.loop-value.contests.items in
    let contest = c.in_ok-contest.contest in
    let items : c.push-in-loop-value.new.self.items ≡ found ++ contest ∷ [] = search rules in
    let gives : contest_in c.args.parties.now c.args.districts.now c.args.path.now found (view c.value-item.result) ≡ Ok contest = search rules in
    let ids : c.push.new.self ≡ c.loop-value.ids ++ contest.id ∷ [] = search rules in
    record {
      count = search rules;
      same = grind (arith, common_steps);
      so_far = rw items (each-turn (contest_in c.args.parties.now c.args.districts.now c.args.path.now) view found c.args.values.now c.loop-value.value-index c.value-item.result contest _ (search rules) c.value-item.is gives c.loop-value.invariant.so_far);
    }
