use Rattle.std.proofs.Common.{◌≡◌, ◌≤◌, Some, length, arith, ap, refl, subst}
use Rattle.std.specs.Prelude.{slice_get}
use Rattle.std.proofs.lemmas.Option.{slice_get_read}
use Rattle.vx_rules.specs.declared.marks.ContestMarks.{ContestMarks}
use Rattle.std.proofs.Common.{List}
use Rattle.vx_command_queue.specs.Queue.{wait_lines}
use Rattle.vx_command_queue.proofs.Lined.{lines_more}
use Rattle.vx_command_queue.proofs.Passed.{next_sheet, none_behind}
use Rattle.vx_command_queue.proofs.walk.Queue.take_sheet.Goals as goal

pub loop-at-preserved : goal.loop-at-preserved
loop-at-preserved c =
    let There : List ContestMarks → Type 0 = λ some. slice_get some c.loop-at.at ≡ Some c.marks-item.result in
    let there : slice_get c.args.sheet.now.contests c.loop-at.at ≡ Some c.marks-item.result = subst There c.as_slice-marks-items.ensures (slice_get_read c.as_slice-marks-items.result.now _ c.loop-at.at c.marks-item.result refl c.loop-at-test.true c.marks-item.is) in
    record {
      lines = lines_more (wait_lines c.args.election.now c.args.center.now.events c.args.key.now c.args.sheet.now) c.args.sheet.now.contests c.loop-at.at c.marks-item.result _ _ _ _ _ _ there c.loop-at.invariant.lines c.in_ok-take_contest.ensures.lines;
      next = c.in_ok-take_contest.ensures.next;
      room = c.in_ok-take_contest.ensures.room;
    }

pub returns-clause-next : goal.returns-clause-next
returns-clause-next c =
    let past : length c.args.sheet.now.contests ≤ c.loop-at.at = omega (arith, c.loop-at-test.false, ap (λ (some : List ContestMarks). length some) c.as_slice-marks-items.ensures) in
    next_sheet c.args.election.now c.args.center.now.events c.args.place c.loop-at.at c.loop-at.self.next
    (none_behind c.args.election.now c.args.center.now.events c.args.place c.args.key.now c.args.sheet.now c.loop-at.at c.requires.there past)
    c.loop-at.invariant.next
