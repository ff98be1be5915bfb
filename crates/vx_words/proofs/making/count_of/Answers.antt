use Rattle.std.proofs.Common.{arith, rules}
use Rattle.vx_words.proofs.Made.{count_made, no_workers_made}
use Rattle.vx_words.proofs.making.count_of.Goals as goal

pub returns-then-workers-eq0 : goal.returns-then-workers-eq0
returns-then-workers-eq0 c = no_workers_made c.args.arguments.now _ c.in-Some.workers (omega arith) c.in-Some.ensures.1 c.if-workers-eq0.true

pub returns : goal.returns
returns c =
    rw (c.in_ok-election.ensures, c.in_ok-batch.ensures, c.in_ok-scans.ensures)
    (count_made c.args.arguments.now _ c.in-Some.workers (omega arith) (omega arith) c.requires (search rules) (omega arith) c.in-Some.ensures.0 c.in-Some.ensures.1)
