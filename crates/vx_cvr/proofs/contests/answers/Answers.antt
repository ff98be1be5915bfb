use Rattle.std.proofs.Common.{◌≡◌, ◌∷◌, ◌++◌, [], map, rules}
use Rattle.serde_json.specs.View.{view}
use Rattle.vx_cvr.specs.Report as spec
use Rattle.vx_cvr.proofs.Made.{one_numbered}
use Rattle.vx_cvr.proofs.contests.answers.Goals as goal

pub loop-option-preserved : goal.loop-option-preserved
loop-option-preserved c =
    let pushed : c.push.new.self.items ≡ c.loop-option.answers.items ++ c.in_ok-answer.field-0 ∷ [] = search rules in
    rw pushed
    (one_numbered (spec.answer c.args.contest.now) [] c.loop-option.answers.items c.loop-option.option c.in_ok-answer.field-0 c.in_ok-answer.ensures c.loop-option.invariant)
