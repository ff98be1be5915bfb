use Rattle.std.proofs.Common.{rules, refl, get_or}
use Rattle.vx_tally.specs.declared.report.VoteRow.{VoteRow}
use Rattle.vx_tally.specs.Sums.{row_shares}
use Rattle.vx_tally.proofs.Changes.{turn-allows, turn-changed}
use Rattle.vx_tally.proofs.sums.change_rows.Goals as goal

pub change_row-requires : goal.change_row-requires
change_row-requires c =
    let none : VoteRow = record { selection = 0; votes = 0 } in
    turn-allows (row_shares c.args.unit c.args.contest) c.args.rows.now c.loop-row.row-index (get_or c.args.rows.now c.loop-row.row-index none) none
    (search rules) refl c.args.change c.args.sums.now c.loop-row.sums c.requires c.loop-row.invariant

pub loop-row-preserved : goal.loop-row-preserved
loop-row-preserved c =
    let none : VoteRow = record { selection = 0; votes = 0 } in
    turn-changed (row_shares c.args.unit c.args.contest) c.args.rows.now c.loop-row.row-index (get_or c.args.rows.now c.loop-row.row-index none) none
    (search rules) refl c.args.change c.args.sums.now c.loop-row.sums _ c.loop-row.invariant c.change_row.ensures
