use Rattle.std.proofs.Common.{◌≡◌, ◌∷◌, ◌++◌, [], List, ℕ, rules, ap, ◌∙◌}
use Rattle.vx_base.proofs.Ranges.{map-laid}
use Rattle.vx_cvr.specs.Names.{selection_name}
use Rattle.vx_results.proofs.contests.selections_of.Goals as goal

pub loop-option-preserved : goal.loop-option-preserved
loop-option-preserved c =
    let so_far : List (List ℕ) = c.loop-option.selections.items in
    let pushed : c.push.new.self.items ≡ c.loop-option.selections.items ++ c.in_ok-selection.field-0 ∷ [] = search rules in
    let name = c.in_ok-selection.ensures ∙ ap (λ (id : List ℕ). selection_name id c.loop-option.option) c.as_str.ensures in
    map-laid (selection_name c.args.contest.now.id) [] so_far c.push.new.self.items c.loop-option.option c.loop-option.invariant
    (pushed ∙ ap (λ (one : List ℕ). so_far ++ one ∷ []) name)
