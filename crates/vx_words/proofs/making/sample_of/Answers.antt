use Rattle.vx_words.proofs.Made.{sample_made}
use Rattle.vx_words.proofs.making.sample_of.Goals as goal

pub returns : goal.returns
returns c =
    rw (c.in_ok-election.ensures, c.in_ok-seed.ensures, c.in_ok-hand.ensures)
    (sample_made c.args.arguments.now _ _ c.in-Some-sample_size.size c.in-len4.len_at_least c.in-len4.len_below c.requires c.in-Some.ensures c.in-Some-sample_size.ensures)
