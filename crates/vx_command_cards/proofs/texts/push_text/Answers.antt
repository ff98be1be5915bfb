use Rattle.std.proofs.Common.{◌≡◌, ℕ, List, chars, ap, sym, ◌∙◌}
use Rattle.vx_command_cards.specs.Drawn.{hollow_in}
use Rattle.vx_command_cards.specs.Texts.{hollow_lines, blank_lines}
use Rattle.vx_command_cards.proofs.Lined.{ok_lines_are}
use Rattle.vx_command_cards.proofs.Told.{told-hollow, told-blank, told-cut}
use Rattle.vx_command_cards.proofs.texts.push_text.Goals as goal

pub returns-in-Hollow-clause-lines : goal.returns-in-Hollow-clause-lines
returns-in-Hollow-clause-lines c =
    let same : c.as_slice-characters.result.now ≡ chars c.args.text.now = c.as_slice-characters.ensures.value ∙ c.in_ok-characters.ensures in
    ok_lines_are c.push_hollow.result _ _ _ _ _ _
    (ap (λ (cs : List ℕ). hollow_lines c.args.contest.now c.args.what.now (hollow_in cs)) same ∙ sym (told-hollow c.args.flaw c.args.contest.now c.args.what.now c.args.text.now c.in-Hollow.is))
    c.push_hollow.ensures.lines

pub returns-in-Blank-clause-lines : goal.returns-in-Blank-clause-lines
returns-in-Blank-clause-lines c =
    let same : c.as_slice-characters.result.now ≡ chars c.args.text.now = c.as_slice-characters.ensures.value ∙ c.in_ok-characters.ensures in
    ok_lines_are c.push_blank.result _ _ _ _ _ _
    (ap (λ (cs : List ℕ). blank_lines c.args.contest.now c.args.what.now cs) same ∙ sym (told-blank c.args.flaw c.args.contest.now c.args.what.now c.args.text.now c.in-Blank.is))
    c.push_blank.ensures.lines

pub returns-clause-lines : goal.returns-clause-lines
returns-clause-lines c =
    ok_lines_are c.push_cuts.result _ _ _ _ _ _ (sym (told-cut c.args.flaw c.args.contest.now c.args.what.now c.args.text.now c.in-Cut.is)) c.push_cuts.ensures.lines
