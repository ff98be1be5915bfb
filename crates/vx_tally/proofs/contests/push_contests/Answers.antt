use Rattle.std.proofs.Common.{◌≡◌, Ok, Err, rules, arith}
use Rattle.vx_base.specs.Refusals.{Unless}
use Rattle.std.proofs.lemmas.Result.{err_from_is_err_and}
use Rattle.serde_json.specs.View.{view}
use Rattle.vx_base.proofs.Results.{Unless-weaker}
use Rattle.vx_tally.specs.Faults.{is_no_memory}
use Rattle.vx_tally.specs.Members.{with_next}
use Rattle.vx_tally.specs.Contests.{contest_in, with_contest, contest_list_in}
use Rattle.vx_tally.proofs.Each.{next-turn, next-refused, hands-on}
use Rattle.vx_tally.proofs.contests.push_contests.Goals as goal

pub returns-in_err-next_contest : goal.returns-in_err-next_contest
unfolding contest_list_in with_contest
returns-in_err-next_contest c =
    let read = contest_in c.args.path.now in
    let p = err_from_is_err_and c.from_residual-in_err-next_contest.result c.from_residual-in_err-next_contest.ensures.1 in
    let fault = p.0 in
    let refused : Unless (is_no_memory fault) (with_next read c.loop-value.directory (view c.value-item.result) ≡ Err fault) = search rules in
    hands-on (λ _. c.next_contest.new.directory) _ fault _ p.1
    (Unless-weaker (is_no_memory fault) (next-refused read view c.loop-value.directory c.args.values.now c.loop-value.value-index c.value-item.result
    (search rules) c.value-item.is _ c.loop-value.invariant.so_far fault) refused)

pub loop-value-preserved : goal.loop-value-preserved
unfolding with_contest
loop-value-preserved c =
    let read = contest_in c.args.path.now in
    let found = c.loop-value.directory in
    let more = c.next_contest.new.directory in
    let gives : with_next read found (view c.value-item.result) ≡ Ok more = search rules in
    record {
      count = search (rules, arith);
      all_are = c.in_ok-next_contest.ensures.all;
      so_far =
          next-turn read view found c.args.values.now c.loop-value.value-index c.value-item.result
          (search rules) c.value-item.is _ c.loop-value.invariant.so_far more gives;
    }
