use Rattle.std.proofs.Common.{sym, ◌∙◌, arith}
use Rattle.std.proofs.lemmas.List.{at_drop_all}
use Rattle.vx_layout.specs.Plan.{contests_checked}
use Rattle.vx_layout.proofs.Printable.{stand-from_checked}
use Rattle.vx_layout.proofs.checking.check_contests.Goals as goal

pub returns-clause-stand : goal.returns-clause-stand
returns-clause-stand c =
    stand-from_checked c.args.paper c.args.contests.now c.args.numbers.now c.requires.sizes c.requires.there
    (sym c.loop-number.invariant ∙ at_drop_all (contests_checked c.args.paper c.args.contests.now) c.args.numbers.now c.loop-number.number-index (omega arith))
