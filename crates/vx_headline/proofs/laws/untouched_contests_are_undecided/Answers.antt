use Rattle.vx_headline.proofs.Untouched.{untouched}
use Rattle.vx_headline.proofs.laws.untouched_contests_are_undecided.Goals as goal

pub returns : goal.returns
returns c = untouched c.same_keys_are_equal.ensures
