use Rattle.std.proofs.Common.{◌≡◌, ◌∷◌, ◌++◌, [], rules}
use Rattle.vx_board.specs.Contests.{option_data}
use Rattle.vx_board.proofs.Made.{one_numbered}
use Rattle.vx_board.proofs.contests.options_value.Goals as goal

pub loop-option-preserved : goal.loop-option-preserved
loop-option-preserved c =
    let pushed : c.push.new.self.items ≡ c.loop-option.options.items ++ c.in_ok-option_value.field-0 ∷ [] = search rules in
    rw pushed
    (one_numbered (option_data c.args.contest.now) c.loop-option.options.items c.loop-option.option c.in_ok-option_value.field-0 c.in_ok-option_value.ensures c.loop-option.invariant)
