use Rattle.std.proofs.Common.{sym, arith}
use Rattle.vx_code.proofs.Tags.{tag_of-bytes}
use Rattle.vx_code.proofs.code.tag_of.Goals as goal

pub returns-clause-exact : goal.returns-clause-exact
returns-clause-exact c =
    rw (c.from.ensures, c.from-2.ensures, c.from-3.ensures)
    (sym (tag_of-bytes c.args.digest.now (omega arith) (omega arith) (omega arith) (omega arith)))
