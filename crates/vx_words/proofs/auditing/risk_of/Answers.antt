use Rattle.vx_words.proofs.Drawn.{risk_made}
use Rattle.vx_words.proofs.auditing.risk_of.Goals as goal

pub returns : goal.returns
returns c =
    rw (c.in_ok-election.ensures, c.in_ok-seed.ensures, c.in_ok-hand.ensures)
    (risk_made c.args.arguments.now _ _ c.in-Some-sample_size.size c.in-Some-risk_limit.limit c.in-len5.len_at_least c.in-len5.len_below c.requires
    (record { is_seed = c.in-Some.ensures; is_size = c.in-Some-sample_size.ensures; is_limit = c.in-Some-risk_limit.ensures }))
