use Rattle.std.proofs.Common.{arith, rules}
use Rattle.std.proofs.lemmas.Result.{err_from_is_err_and}
use Rattle.vx_words.proofs.Centers.{center_made, no_device_made, no_items_made, no_moment_made, not_so_many}
use Rattle.vx_words.proofs.making.center_of.Goals as goal
use Rattle.vx_words.proofs.making.center_of.Goals.{then-arguments-lt4-via-then-arguments-lt4, then-arguments-lt4-via-else-arguments-lt4+then-arguments-gt19}

pub returns-then-arguments-lt4 : goal.returns-then-arguments-lt4
returns-then-arguments-lt4 c = not_so_many c.args.arguments.now (λ least most. elim c.then-arguments-lt4.branch [
  | then-arguments-lt4-via-then-arguments-lt4 w ↦ absurd (omega (arith, least, w.if-arguments-lt4.true))
  | then-arguments-lt4-via-else-arguments-lt4+then-arguments-gt19 w ↦ absurd (omega (arith, most, w.if-arguments-gt19.true))
])

pub returns-then-not-is_moment : goal.returns-then-not-is_moment
returns-then-not-is_moment c = no_moment_made c.args.arguments.now (omega arith) (search rules)

pub returns-in_default : goal.returns-in_default
returns-in_default c = no_device_made c.args.arguments.now (omega arith) (search rules)

pub returns-in_err-items : goal.returns-in_err-items
returns-in_err-items c =
    let err = err_from_is_err_and c.from_residual-in_err-items.result c.from_residual-in_err-items.ensures.1 in
    rw err.1 (no_items_made c.args.arguments.now c.in_err-items.field-0.0 err.0 err.2 c.in_err-items.ensures)

pub returns : goal.returns
returns c =
    rw (c.in_ok-election.ensures, c.in_ok-moment.ensures)
    (center_made c.args.arguments.now c.in-Some.device c.in_ok-items.items (omega arith) (omega arith) c.requires (search rules) (search rules) c.in_ok-items.ensures)
