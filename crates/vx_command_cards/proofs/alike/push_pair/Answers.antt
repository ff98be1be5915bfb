use Rattle.std.proofs.Common.{◌≡◌, ◌∷◌, [], true, false, ℕ, List, chars, ap, sym, ◌∙◌, arith}
use Rattle.vx_layout.specs.Blocks.{label_at}
use Rattle.vx_command_cards.specs.Drawn.{are_same_cells, look_alike}
use Rattle.vx_command_cards.proofs.Lined.{no_lines, lines_are}
use Rattle.vx_command_cards.proofs.Looking.{pair-before, pair-alike, pair-other}
use Rattle.vx_command_cards.proofs.alike.push_pair.Goals as goal

pub returns-then-second-first-clause-lines : goal.returns-then-second-first-clause-lines
returns-then-second-first-clause-lines c =
    lines_are _ _ _ _ _ _ (sym (pair-before c.args.contest.now c.args.first c.args.second (omega arith))) (no_lines _ _)

pub returns-in_ok-push-clause-lines : goal.returns-in_ok-push-clause-lines
returns-in_ok-push-clause-lines c =
    let second = chars (label_at c.args.contest.now c.args.second) in
    let same : look_alike (label_at c.args.contest.now c.args.first) (label_at c.args.contest.now c.args.second) ≡ true =
    ap (λ (cs : List ℕ). are_same_cells cs second) (sym c.requires.same) ∙ sym c.in_ok-looks_so.ensures ∙ c.if-branch.true in
    lines_are _ _ _ _ _ _
    (ap (λ (line : List ℕ). line ∷ []) (c.as_str.ensures.value ∙ c.in_ok-line.ensures) ∙ sym (pair-alike c.args.contest.now c.args.first c.args.second (omega arith) same))
    c.in_ok-push.ensures.lines

pub returns-else-branch-clause-lines : goal.returns-else-branch-clause-lines
returns-else-branch-clause-lines c =
    let second = chars (label_at c.args.contest.now c.args.second) in
    let other : look_alike (label_at c.args.contest.now c.args.first) (label_at c.args.contest.now c.args.second) ≡ false =
    ap (λ (cs : List ℕ). are_same_cells cs second) (sym c.requires.same) ∙ sym c.in_ok-looks_so.ensures ∙ c.if-branch.false in
    lines_are _ _ _ _ _ _ (sym (pair-other c.args.contest.now c.args.first c.args.second other)) (no_lines _ _)
