use Rattle.std.proofs.Common.{[]}
use Rattle.vx_command_cards.proofs.Lined.{no_lines, lines_are, ok_lines_are}
use Rattle.vx_command_cards.proofs.Told.{foot-shown, foot-cut}
use Rattle.vx_command_cards.proofs.foot.push_foot.Goals as goal

pub returns-in-Hollow-clause-lines : goal.returns-in-Hollow-clause-lines
returns-in-Hollow-clause-lines c =
    let same = foot-shown c.args.flaw c.args.election.now c.in-Hollow.is in
    ok_lines_are c.push_election.result _ _ _ _ _ _ same c.push_election.ensures.lines

pub returns-in-Cut-clause-lines : goal.returns-in-Cut-clause-lines
returns-in-Cut-clause-lines c = lines_are [] _ _ _ _ _ (foot-cut c.args.flaw c.args.election.now c.in-Cut.is) (no_lines _ _)
