use Rattle.vx_words.proofs.Made.{decide_made}
use Rattle.vx_words.proofs.making.decide_of.Goals as goal

pub returns : goal.returns
returns c = rw (c.in_ok-election.ensures, c.in_ok-script.ensures) (decide_made c.args.arguments.now _ c.in-len2.len_at_least c.in-len2.len_below c.requires)
