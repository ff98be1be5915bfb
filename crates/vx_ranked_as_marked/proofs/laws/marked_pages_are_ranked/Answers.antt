use Rattle.vx_ranked_as_marked.proofs.Ranked.{ranked}
use Rattle.vx_ranked_as_marked.proofs.laws.marked_pages_are_ranked.Goals as goal

pub returns : goal.returns
returns c =
    ranked c.steps_in_order.ensures c.journals_in_order.ensures c.marked_pages_are_exported.ensures
    c.undecided_sheets_are_ranked_as_marked.ensures
