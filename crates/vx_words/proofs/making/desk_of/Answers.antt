use Rattle.std.proofs.Common.{arith, rules}
use Rattle.vx_words.proofs.Made.{desk_made}
use Rattle.vx_words.proofs.making.desk_of.Goals as goal

pub returns : goal.returns
returns c =
    rw (c.in_ok-election.ensures, c.in_ok-batch.ensures, c.in_ok-scans.ensures)
    (desk_made c.args.arguments.now _ (omega arith) (omega arith) c.requires (search rules))
