use Rattle.std.specs.Prelude.{string_bytes}
use Rattle.vx_results.specs.Counted.{pile_of}
use Rattle.vx_results.specs.Summary.{selection_votes}
use Rattle.vx_results.proofs.Walked.{one-laid}
use Rattle.vx_results.proofs.group_lines.push_votes.Goals as goal

pub loop-selection-preserved : goal.loop-selection-preserved
loop-selection-preserved c =
    let unit = c.unit_at-unit.ensures in
    let kind = c.word_at-kind.ensures in
    let id = c.as_str-id.ensures in
    let votes = c.total_at-votes.ensures in
    let name = c.as_str.ensures in
    let pushed = c.in_ok-push_selection.ensures in
    one-laid (selection_votes c.args.units.now (pile_of c.args.piles.now) c.args.place c.args.contest.now c.args.group) c.as_slice-selections.result.now
    c.loop-selection.selection c.index-selections-selection.result c.loop-selection-test.true c.index-selections-selection.is
    (string_bytes c.args.text.now) (string_bytes c.loop-selection.text) (string_bytes c.push_selection.new.text) c.loop-selection.invariant cc
