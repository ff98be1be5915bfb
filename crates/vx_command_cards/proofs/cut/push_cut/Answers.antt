use Rattle.std.proofs.Common.{◌∷◌, [], ℕ, List, ap, sym, ◌∙◌}
use Rattle.vx_command_cards.proofs.Cutting.{cut-from, cut_at-yes, cut_at-no}
use Rattle.vx_command_cards.proofs.Lined.{no_lines, lines_are}
use Rattle.vx_command_cards.proofs.cut.push_cut.Goals as goal

pub returns-in_ok-push-clause-lines : goal.returns-in_ok-push-clause-lines
returns-in_ok-push-clause-lines c =
    let cut = cut-from c.args.text.now c.args.characters.now c.args.line c.ends_within.result c.utf8.text c.requires.same c.requires.there c.ends_within.ensures ∙ c.if-ends_within.true in
    lines_are _ _ _ _ _ _
    (ap (λ (line : List ℕ). line ∷ []) (c.as_str.ensures.value ∙ c.in_ok-told.ensures) ∙ cut_at-yes c.args.contest.now c.args.what.now c.args.text.now c.args.characters.now c.args.line c.utf8.text c.requires.same cut)
    c.in_ok-push.ensures.lines

pub returns-else-ends_within-clause-lines : goal.returns-else-ends_within-clause-lines
returns-else-ends_within-clause-lines c =
    let whole = cut-from c.args.text.now c.args.characters.now c.args.line c.ends_within.result c.utf8.text c.requires.same c.requires.there c.ends_within.ensures ∙ c.if-ends_within.false in
    lines_are _ _ _ _ _ _ (sym (cut_at-no c.args.contest.now c.args.what.now c.args.text.now c.args.line whole)) (no_lines _ _)
