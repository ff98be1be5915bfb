use Rattle.std.proofs.Common.{◌≡◌, ℕ, List, length, IfOk, OnOk, subst, ◌∙◌}
use Rattle.std.specs.List.{range_with_len}
use Rattle.std.proofs.lemmas.List.FromFn.{length-range_with_len}
use Rattle.rand_pcg.specs.Lcg.{Lcg}
use Rattle.vx_layout.specs.declared.bubbles.Bubble.{Bubble}
use Rattle.vx_simulate.specs.Draws.{draw_all, draw_places}
use Rattle.vx_simulate.proofs.OneMore.{drawn-alike}
use Rattle.vx_simulate.proofs.flips.draw_at_bubbles.Goals as goal

alike : (bubbles : List Bubble) (many : ℕ) (g : Lcg) → many ≡ length bubbles
    → draw_all (λ (n : ℕ). draw_places 12 72 50) (range_with_len 0 many) g ≡ draw_all (λ (one : Bubble). draw_places 12 72 50) bubbles g
alike bubbles many g all = drawn-alike (draw_places 12 72 50) (range_with_len 0 many) bubbles g (length-range_with_len 0 many ∙ all)

pub returns-clause-lists : goal.returns-clause-lists
returns-clause-lists c =
    subst (λ (p : List (List (ℕ × ℕ)) × Lcg). IfOk c.draw_lists.result (λ drawn. drawn.items ≡ p.0)) (alike c.args.plan.now.bubbles c.len.result c.args.rng.now c.len.ensures) c.draw_lists.ensures.lists

pub returns-clause-next : goal.returns-clause-next
returns-clause-next c =
    subst (λ (p : List (List (ℕ × ℕ)) × Lcg). OnOk c.draw_lists.result (c.draw_lists.new.rng ≡ p.1)) (alike c.args.plan.now.bubbles c.len.result c.args.rng.now c.len.ensures) c.draw_lists.ensures.next
