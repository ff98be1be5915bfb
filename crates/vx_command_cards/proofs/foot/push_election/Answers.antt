use Rattle.std.proofs.Common.{ℕ, List, ap₂}
use Rattle.std.specs.List.{flat_map}
use Rattle.vx_command_cards.specs.Texts.{text_lines, title_word, election_word, precinct_lines, election_lines}
use Rattle.vx_command_cards.proofs.Lined.{lines_are, lines_then}
use Rattle.vx_command_cards.proofs.foot.push_election.Goals as goal

pub returns-clause-lines : goal.returns-clause-lines
unfolding election_lines
returns-clause-lines c =
    let flaw = c.args.flaw in
    let election = c.args.election.now in
    let title = text_lines flaw election_word title_word election.title in
    let told = lines_are _ title _ _ _ _ (ap₂ (λ (whose text : List ℕ). text_lines flaw whose title_word text) c.election_word.ensures c.as_str-title.ensures) c.in_ok-push_text.ensures.lines in
    lines_then title (flat_map (precinct_lines flaw) election.precincts) _ _ _ _ _ _ told c.in_ok-push_precincts.ensures.lines
