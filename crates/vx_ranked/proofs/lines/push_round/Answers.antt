use Rattle.std.proofs.Common.{append_assoc}
use Rattle.vx_ranked.proofs.lines.push_round.Goals as goal

pub returns : goal.returns
returns c = simp (c.in_ok-write-2.ensures.bytes, c.in_ok-push_counts.ensures, c.as_slice.ensures, c.in_ok-write.ensures.bytes, append_assoc)
