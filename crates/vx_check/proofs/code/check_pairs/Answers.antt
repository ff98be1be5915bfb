use Rattle.std.proofs.Common.{sym, arith}
use Rattle.std.proofs.lemmas.Result.{err_from_is_err_and}
use Rattle.vx_check.specs.Tests.{pair_tested}
use Rattle.vx_check.proofs.Orders.{in_order-fails, in_order-passes}
use Rattle.vx_check.proofs.code.check_pairs.Goals as goal

pub returns-in_err-check_pair : goal.returns-in_err-check_pair
returns-in_err-check_pair c =
    let p = err_from_is_err_and c.from_residual.result c.from_residual.ensures.1 in
    rw (p.1, p.2) (sym (in_order-fails (pair_tested c.args.counts.now c.args.boxes.now) 0 42 c.loop-n.n _ (λ j from before. c.loop-n.invariant j before) (omega arith) (omega arith) (sym c.in_err-check_pair.ensures)))

pub returns : goal.returns
returns c =
    sym (in_order-passes (pair_tested c.args.counts.now c.args.boxes.now) 0 42 (λ j from before. c.loop-n.invariant j (omega (arith, before))))
