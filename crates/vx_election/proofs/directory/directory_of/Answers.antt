use Rattle.std.proofs.Common.{◌≡◌, ◌++◌, ◌∷◌, [], Ok, length-append, rules, arith}
use Rattle.serde_json.specs.View.{view}
use Rattle.vx_election.specs.Parts.{named_in}
use Rattle.vx_election.proofs.Each.{each-turn}
use Rattle.vx_election.proofs.directory.directory_of.Goals as goal

pub loop-value-preserved : goal.loop-value-preserved
loop-value-preserved c =
    let found = c.loop-value.directory in
    let named = c.in_ok-named.named in
    let items : c.push.new.self ≡ found ++ named ∷ [] = search rules in
    let gives : named_in c.args.path.now found (view c.value-item.result) ≡ Ok named = search rules in
    record {
      count = rw items (omega (arith, length-append found (named ∷ []), c.loop-value.invariant.count));
      so_far = rw items (each-turn (named_in c.args.path.now) view found c.args.values.now c.loop-value.value-index c.value-item.result named _ (search rules) c.value-item.is gives c.loop-value.invariant.so_far);
    }
