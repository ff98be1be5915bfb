use Rattle.std.proofs.Common.{arith}
use Rattle.std.proofs.lemmas.Int.{ints}
use Rattle.vx_mark_model.proofs.steps.is_close.Goals as goal

pub returns-then-expected-reach : goal.returns-then-expected-reach
returns-then-expected-reach c = (λ t. (omega (arith, ints), omega (arith, ints, t)), λ p. grind (arith, ints))
