use Rattle.std.proofs.Common.{sym}
use Rattle.vx_code.proofs.Fields.{number_of-fields}
use Rattle.vx_code.proofs.code.number_of.Goals as goal

pub returns-clause-exact : goal.returns-clause-exact
returns-clause-exact c =
    rw (c.from-version.ensures, c.from.ensures, c.number_of_kind.ensures, c.from-2.ensures, c.from-3.ensures, c.from-4.ensures)
    (sym (number_of-fields c.args.code.now c.requires))
