use Rattle.vx_ranked.proofs.Marked.{ranked-as-marked}
use Rattle.vx_ranked.proofs.laws.undecided_sheets_are_ranked_as_marked.Goals as goal

pub returns : goal.returns
returns c = ranked-as-marked
