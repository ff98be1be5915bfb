use Rattle.std.proofs.Common.{◌≡◌, ◌++◌, ◌∷◌, [], cond, arith, rules}
use Rattle.vx_center.specs.Sheets.{sheets_in}
use Rattle.vx_results.specs.Kinds.{has_lines}
use Rattle.vx_results.proofs.Searching.{passing_laid}
use Rattle.vx_results.proofs.kinds.kinds_in.Goals as goal

pub loop-kind-preserved : goal.loop-kind-preserved
loop-kind-preserved c =
    let kind = c.loop-kind.kind in
    let step : c.push_if.new.numbers.items ≡ c.loop-kind.kinds.items ++ cond c.has_lines.result (kind ∷ []) [] = search rules in
    passing_laid (has_lines (sheets_in c.args.center.now.events)) 0 kind kind c.loop-kind.kinds.items c.push_if.new.numbers.items c.has_lines.result
    (omega arith) c.loop-kind.invariant c.has_lines.ensures step
