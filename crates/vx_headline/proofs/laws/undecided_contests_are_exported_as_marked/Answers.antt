use Rattle.vx_headline.proofs.Undecided.{exported-as-marked}
use Rattle.vx_headline.proofs.laws.undecided_contests_are_exported_as_marked.Goals as goal

pub returns : goal.returns
returns c = exported-as-marked c.marked_pages_are_exported.ensures
