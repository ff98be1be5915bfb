use Rattle.std.proofs.Common.{◌∙◌, ◌++◌, ℕ, List, ap}
use Rattle.vx_desk.specs.Lines.{first_text}
use Rattle.vx_desk.specs.Page.{head}
use Rattle.vx_command_desk.specs.Outcome.{opening_text}
use Rattle.vx_command_desk.proofs.page.opening.Goals as goal

pub returns : goal.returns
unfolding opening_text
returns c =
    c.in_ok-push_first.ensures
    ∙ ap (λ (text : List ℕ). text ++ first_text c.args.setting.now.election.now c.args.setting.now.batch.now)
    (c.in_ok-push_head.ensures ∙ ap (λ (text : List ℕ). text ++ head) c.new-text.ensures)
