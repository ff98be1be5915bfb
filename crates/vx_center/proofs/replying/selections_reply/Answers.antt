use Rattle.std.proofs.Common.{◌≡◌, ◌∙◌, ap, sym, arith, length, List, ℕ, None, true, subst}
use Rattle.std.specs.Prelude.{find, nat_le}
use Rattle.vx_events.specs.Ascending.{is_ascending}
use Rattle.vx_center.proofs.Few.{ascending-few}
use Rattle.vx_center.proofs.replying.selections_reply.Goals as goal

pub overflow_cast-result : goal.overflow_cast-result
overflow_cast-result c =
    let up : is_ascending c.as_slice-options.result.now ≡ true = ap is_ascending c.as_slice-options.ensures.value ∙ c.as_slice-options.ensures.ascending in
    let few = ascending-few c.options.result c.as_slice-options.result.now up (sym c.in-None.ensures) in
    omega (arith, few, c.options.ensures, c.requires)
