use Rattle.std.proofs.Common.{◌≡◌, ◌<◌, ◌∙◌, ℕ, ap, cond, Some, arith}
use Rattle.std.proofs.lemmas.Bool.Decides.{nat_tests}
use Rattle.indexmap.specs.IndexMap.{get}
use Rattle.vx_tally.specs.declared.sums.Counted.{Counted}
use Rattle.vx_tally.specs.Sums.{changed_by, sum_at}
use Rattle.vx_tally.proofs.SameSums.{derived, succeeds, one-changed, on-ok}
use Rattle.vx_tally.proofs.sums.change_sum.Goals as goal

pub unwrap-requires : goal.unwrap-requires
unwrap-requires c =
    let some : 0 < c.args.number = grind (arith, nat_tests) in
    succeeds c.args.key c.args.number c.args.sums.now c.insert.new.self c.args.change c.insert.result c.requires some
    c.insert.ensures.succeeds c.insert.ensures.absent

pub returns : goal.returns
returns c =
    let ok = unwrap-requires c.before in
    let updates = on-ok c.insert.result ok c.insert.ensures.updates in
    let value : c.changed.result ≡ changed_by c.args.change (sum_at c.args.sums.now c.args.key) c.args.number =
    c.changed.ensures ∙ ap (λ (n : ℕ). changed_by c.args.change n c.args.number) c.sum_at-before.ensures in
    one-changed c.args.key c.args.number c.args.sums.now c.insert.new.self c.args.change c.requires c.insert.ensures.spare
    (λ (other : Counted). updates.0 other ∙ ap (λ (n : ℕ). cond (derived c.args.key other) (Some n) (get derived c.args.sums.now other)) value)
