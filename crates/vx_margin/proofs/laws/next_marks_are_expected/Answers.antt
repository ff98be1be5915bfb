use Rattle.vx_margin.proofs.Chains.{next-expected}
use Rattle.vx_margin.proofs.laws.next_marks_are_expected.Goals as goal

pub returns : goal.returns
returns c = next-expected
