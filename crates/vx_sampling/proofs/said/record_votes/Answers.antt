use Rattle.vx_sampling.proofs.Summed.{one_record}
use Rattle.vx_sampling.proofs.said.record_votes.Goals as goal

pub returns : goal.returns
returns c = let whole = one_record c.args.one.now c.args.contest c.args.selection in cc (whole, c.in_ok-sum.ensures, c.as_slice.ensures)
