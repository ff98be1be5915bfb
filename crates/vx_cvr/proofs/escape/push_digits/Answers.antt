use Rattle.vx_cvr.proofs.Escaped.{number}
use Rattle.vx_cvr.proofs.escape.push_digits.Goals as goal

pub returns : goal.returns
returns c = rw (number c.args.number c.ranges.number.fits) c.push_number.ensures
