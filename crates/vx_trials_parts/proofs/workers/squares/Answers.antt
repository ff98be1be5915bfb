use Rattle.std.proofs.Common.{◌≡◌, ◌*◌, map, subst}
use Rattle.std.proofs.lemmas.Result.{IfOk-weaker}
use Rattle.std.proofs.lemmas.Slice.Zip.{AllZip-map}
use Rattle.vx_base.proofs.Lists.{zip_weaker}
use Rattle.vx_trials_parts.proofs.workers.squares.Goals as goal

pub returns : goal.returns
returns g c =
    IfOk-weaker c.map_tasks.result _ (λ answers. answers.items ≡ map (λ item. item * item) c.args.items.now)
    (λ answers each. AllZip-map (λ item. item * item) c.args.items.now answers.items
    (zip_weaker _ (λ item answer. answer ≡ item * item) (λ item answer r. subst (λ x. answer ≡ x * x) r.shows r.says.met) c.args.items.now answers.items each))
    c.map_tasks.ensures.in_order
