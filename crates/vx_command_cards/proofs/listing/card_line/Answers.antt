use Rattle.std.proofs.Common.{◌≡◌, ◌++◌, ◌∷◌, ℕ, List, Result, string_bytes, append_assoc, ap, sym, ◌∙◌}
use Rattle.vx_layout.specs.declared.fault.LayoutFault.{LayoutFault}
use Rattle.vx_layout.specs.declared.plan.CardPlan.{CardPlan}
use Rattle.vx_layout.specs.Plan.{plan_of}
use Rattle.vx_command_cards.specs.Cards.{card_head, planned_words, card_tail, card_line}
use Rattle.vx_command_cards.proofs.listing.card_line.Goals as goal

joined : (first second third head planned tail : List ℕ) → first ≡ head → second ≡ first ++ 32 ∷ planned → third ≡ second ++ 32 ∷ tail → third ≡ head ++ 32 ∷ (planned ++ 32 ∷ tail)
joined first second third head planned tail p q r =
    r ∙ ap (λ (text : List ℕ). text ++ 32 ∷ tail) (q ∙ ap (λ (text : List ℕ). text ++ 32 ∷ planned) p) ∙ append_assoc head (32 ∷ planned) (32 ∷ tail)

pub returns : goal.returns
unfolding card_line
returns c =
    let election = c.args.election.now in
    joined (string_bytes c.in_ok-line.line) (string_bytes c.push_planned.new.line) (string_bytes c.push_tail.new.line) (card_head election c.args.number) (planned_words (plan_of election c.args.number)) (card_tail election c.args.number)
    c.in_ok-line.ensures (c.in_ok-push_planned.ensures ∙ ap (λ (p : Result CardPlan LayoutFault). string_bytes c.in_ok-line.line ++ 32 ∷ planned_words p) (sym c.in_ok-planned.ensures)) c.in_ok-push_tail.ensures
