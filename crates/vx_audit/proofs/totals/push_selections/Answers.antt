use Rattle.std.specs.Prelude.{string_bytes}
use Rattle.vx_tally.specs.Running.{summed_in}
use Rattle.vx_audit.specs.Totals.{selection_total}
use Rattle.vx_audit.proofs.Walked.{one-laid}
use Rattle.vx_audit.proofs.totals.push_selections.Goals as goal

pub loop-selection-preserved : goal.loop-selection-preserved
loop-selection-preserved c =
    let votes = c.total-votes.ensures in
    let name = c.as_str.ensures in
    let pushed = c.in_ok-push_total.ensures in
    one-laid (selection_total (summed_in c.args.totals.now) c.args.place c.args.contest.now) c.args.selections.now c.loop-selection.selection c.index-selections-selection.result
    c.loop-selection-test.true c.index-selections-selection.is
    (string_bytes c.args.text.now) (string_bytes c.loop-selection.text) (string_bytes c.push_total.new.text) c.loop-selection.invariant cc
