use Rattle.std.proofs.Common.{◌++◌, ℕ, List, ap, ap₂, ◌∙◌}
use Rattle.vx_layout.specs.Blocks.{description_of}
use Rattle.vx_command_cards.specs.Texts.{text_lines, title_word, description_word, choice_lines, contest_lines}
use Rattle.vx_command_cards.proofs.Lined.{lines_are, lines_then}
use Rattle.vx_command_cards.proofs.texts.push_contest.Goals as goal

pub returns-clause-lines : goal.returns-clause-lines
unfolding contest_lines
returns-clause-lines c =
    let flaw = c.args.flaw in
    let contest = c.args.contest.now in
    let title = text_lines flaw contest.id title_word contest.title in
    let description = text_lines flaw contest.id description_word (description_of contest) in
    let told = lines_are _ title _ _ _ _ (ap₂ (λ (id text : List ℕ). text_lines flaw id title_word text) c.as_str-id.ensures c.as_str.ensures) c.in_ok-push_text.ensures.lines in
    let described = lines_are _ description _ _ _ _
    (ap₂ (λ (id what : List ℕ). text_lines flaw id what c.description_of.result.now) c.as_str-id.ensures c.description_word.ensures ∙ ap (text_lines flaw contest.id description_word) c.description_of.ensures)
    c.in_ok-push_text-2.ensures.lines in
    lines_then (title ++ description) (choice_lines flaw contest) _ _ _ _ _ _ (lines_then title description _ _ _ _ _ _ told described) c.in_ok-push_choices.ensures.lines
