use Rattle.std.proofs.Common.{◌≡◌, false, Some, string_bytes}
use Rattle.vx_center.specs.Waiting.{waits_at}
use Rattle.vx_command_queue.proofs.Passed.{not_next, no_line}
use Rattle.vx_command_queue.proofs.Lined.{no_lines, lines_are}
use Rattle.vx_command_queue.proofs.walk.Queue.take_contest.Goals as goal

pub returns-else-is_next-clause-lines : goal.returns-else-is_next-clause-lines
returns-else-is_next-clause-lines c =
    let other : c.args.self.now.next ≡ Some (c.args.place, c.args.at) → ⊥ = λ is. let never = c.if-is_next.ensures.1 is in cc in
    let quiet : waits_at c.args.election.now c.args.center.now.events c.args.place c.args.at ≡ false = not_next c.args.election.now c.args.center.now.events c.args.place c.args.at c.args.self.now.next c.requires.next other in
    lines_are _ _ _ _ _ _ (no_line c.args.election.now c.args.center.now.events c.args.place c.args.key.now c.args.sheet.now c.args.at c.args.marks.now c.requires.there c.requires.on quiet) (no_lines (string_bytes c.args.self.now.text) c.args.self.now.count)
