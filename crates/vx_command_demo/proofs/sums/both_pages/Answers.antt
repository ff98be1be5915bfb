use Rattle.std.proofs.Common.{refl, arith}
use Rattle.std.proofs.lemmas.Int.{ints}
use Rattle.vx_command_demo.proofs.Adding.{same-pages}
use Rattle.vx_command_demo.proofs.sums.both_pages.Goals as goal

pub returns-clause-sums : goal.returns-clause-sums
returns-clause-sums c = same-pages _ _ refl refl refl refl (omega (arith, ints)) (omega (arith, ints)) refl
