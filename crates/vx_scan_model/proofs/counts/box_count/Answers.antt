use Rattle.vx_scan_model.proofs.Plans.{code_row-within}
use Rattle.vx_scan_model.proofs.counts.box_count.Goals as goal

pub place-requires-clause-row : goal.place-requires-clause-row
place-requires-clause-row c =
    code_row-within c.args.border.now.paper c.paper.result c.place_of_box-column.result.1 c.paper.ensures c.place_of_box-column.ensures.rows.1
