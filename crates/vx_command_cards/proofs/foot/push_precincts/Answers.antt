use Rattle.std.proofs.Common.{◌≤◌, List, length, ap, arith}
use Rattle.vx_election_model.specs.declared.named.Named.{Named}
use Rattle.vx_command_cards.specs.Texts.{precinct_lines}
use Rattle.vx_command_cards.proofs.Lined.{no_lines, lines_all}
use Rattle.vx_command_cards.proofs.foot.push_precincts.Goals as goal

pub loop-precinct-init : goal.loop-precinct-init
loop-precinct-init c = record { lines = no_lines _ _; room = c.requires }

pub returns-clause-lines : goal.returns-clause-lines
returns-clause-lines c =
    let past : length c.args.election.now.precincts ≤ c.loop-precinct.precinct-index = omega (arith, c.loop-precinct-test.false, ap (λ (some : List Named). length some) c.as_slice-precinct-items.ensures) in
    lines_all (precinct_lines c.args.flaw) c.args.election.now.precincts c.loop-precinct.precinct-index _ _ _ _ past c.loop-precinct.invariant.lines
