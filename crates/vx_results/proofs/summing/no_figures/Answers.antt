use Rattle.std.proofs.Common.{◌≡◌, ◌*◌, [], length, refl, replicate, rules}
use Rattle.std.specs.Prelude.{All}
use Rattle.vx_tally.specs.Running.{SumsUp}
use Rattle.vx_results.specs.Counted.{unit_count}
use Rattle.vx_results.proofs.Figured.{figures_none}
use Rattle.vx_results.proofs.summing.no_figures.Goals as goal

pub returns : goal.returns
returns c kept =
    let count : length c.in_ok-piles.piles.items ≡ 8 * unit_count c.args.election.now = search rules in
    let none : All (SumsUp []) c.in_ok-piles.piles.items = search rules in
    let names : c.in_ok-names.names.items ≡ replicate (length c.args.election.now.contests) [] = search rules in
    figures_none c.args.election.now kept
    (record { piles = c.in_ok-piles.piles; sheets = c.new.result; waits = c.new-2.result; names = c.in_ok-names.names; waiting = 0 })
    count none c.new.ensures c.new-2.ensures names refl
