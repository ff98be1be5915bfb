use Rattle.std.specs.List.{flat_map}
use Rattle.vx_command_cards.specs.Texts.{foot_lines, contest_lines, flaw_lines}
use Rattle.vx_command_cards.proofs.Lined.{lines_from, lines_then}
use Rattle.vx_command_cards.proofs.texts.list_flaws.Goals as goal

pub returns : goal.returns
unfolding flaw_lines
returns c =
    let election = c.args.election.now in
    lines_from (flaw_lines c.args.flaw election) _ _ _ _ c.new-lines.ensures.text c.new-lines.ensures.count
    (lines_then (foot_lines c.args.flaw election) (flat_map (contest_lines c.args.flaw) election.contests) _ _ _ _ _ _ c.in_ok-push_foot.ensures.lines c.in_ok-push_contests.ensures.lines)
