use Rattle.vx_words.proofs.Drawn.{board_made}
use Rattle.vx_words.proofs.auditing.board_of.Goals as goal

pub returns : goal.returns
returns c =
    rw (c.in_ok-election.ensures, c.in_ok-seed.ensures)
    (board_made c.args.arguments.now _ _ c.in-Some-sample_size.size c.in-len3.len_at_least c.in-len3.len_below c.requires c.in-Some.ensures c.in-Some-sample_size.ensures)
