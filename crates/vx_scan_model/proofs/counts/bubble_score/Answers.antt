use Rattle.vx_scan_model.proofs.Plans.{contest_row-within}
use Rattle.vx_scan_model.proofs.counts.bubble_score.Goals as goal

pub place-requires-clause-row : goal.place-requires-clause-row
place-requires-clause-row c = contest_row-within c.args.border.now.paper c.args.bubble.row c.requires.bubble.high
