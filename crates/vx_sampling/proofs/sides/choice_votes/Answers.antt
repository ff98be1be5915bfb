use Rattle.std.proofs.Common.{ℕ, ◌++◌, ◌∷◌, [], ap, ◌∙◌}
use Rattle.vx_base.proofs.Ranges.{map-laid}
use Rattle.vx_tally.specs.Running.{summed_in}
use Rattle.vx_sampling.proofs.sides.choice_votes.Goals as goal

pub loop-choice-preserved : goal.loop-choice-preserved
loop-choice-preserved c =
    map-laid ((summed_in c.args.totals.now).votes c.args.place) [] c.loop-choice.votes.items c.push.new.self.items c.loop-choice.choice c.loop-choice.invariant
    (c.in_ok-push.ensures.items ∙ ap (λ (votes : ℕ). c.loop-choice.votes.items ++ votes ∷ []) c.total.ensures)
