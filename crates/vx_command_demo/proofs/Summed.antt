-- The summary of what was counted is that of the sheets.
use Rattle.std.proofs.Common.{◌≡◌, ℕ, List, sym, ap₂, ◌∙◌}
use Rattle.vx_election_model.specs.declared.election.Election.{Election}
use Rattle.vx_layout.specs.declared.plan.CardPlan.{CardPlan}
use Rattle.vx_command_demo.specs.declared.counted.Counted.{Counted}
use Rattle.vx_command_demo.specs.Adding.{counted_of}
use Rattle.vx_command_demo.specs.Summary.{hollow_in, summary_of, summary_text}
use Rattle.vx_command_demo.specs.Trials.{sheets_of}

pub summed : (election : Election) (plans : List CardPlan) (seed sheets : ℕ) (counted : Counted) (hollow : ℕ) (text : List ℕ)
    → counted ≡ counted_of election (sheets_of election plans seed sheets) → hollow ≡ hollow_in plans
    → text ≡ summary_text seed sheets counted.pages counted.reasons hollow
    → summary_of election plans seed sheets ≡ text
unfolding summary_of
summed election plans seed sheets counted hollow text counted_is hollow_is is =
    sym (is ∙ ap₂ (λ (c : Counted) (h : ℕ). summary_text seed sheets c.pages c.reasons h) counted_is hollow_is)
