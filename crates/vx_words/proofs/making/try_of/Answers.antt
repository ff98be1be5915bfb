use Rattle.std.proofs.Common.{arith}
use Rattle.vx_words.proofs.Made.{try_made}
use Rattle.vx_words.proofs.making.try_of.Goals as goal

pub returns : goal.returns
returns c = rw (c.in_ok-election.ensures, c.in_ok-scans.ensures) (try_made c.args.arguments.now _ (omega arith) (omega arith) c.requires)
