use Rattle.vx_words.proofs.Made.{check_made}
use Rattle.vx_words.proofs.making.check_of.Goals as goal

pub returns : goal.returns
returns c = rw (c.in_ok-election.ensures, c.in_ok-scans.ensures, c.in_ok-readings.ensures) (check_made c.args.arguments.now _ c.in-len3.len_at_least c.in-len3.len_below c.requires)
