use Rattle.vx_words.proofs.Made.{print_made}
use Rattle.vx_words.proofs.making.print_of.Goals as goal

pub returns : goal.returns
returns c = rw c.in_ok-election.ensures (print_made c.args.arguments.now _ c.in-Some.card c.in-Some-kind_and_test.kind c.in-Some-kind_and_test.test c.in-len3.len_at_least c.in-len3.len_below c.requires c.in-Some.ensures.0 c.in-Some.ensures.1 c.in-Some-kind_and_test.ensures.0 c.in-Some-kind_and_test.ensures.1)
