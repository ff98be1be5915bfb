use Rattle.std.specs.Prelude.{string_bytes}
use Rattle.vx_results.specs.Counted.{kept_contest}
use Rattle.vx_results.proofs.Walked.{one-laid}
use Rattle.vx_results.proofs.summarizing.push_contests.Goals as goal

pub loop-place-preserved : goal.loop-place-preserved
loop-place-preserved c =
    one-laid (kept_contest c.args.election.now c.args.center.now.events c.args.figures.now) c.as_slice-contests.result.now c.loop-place.place
    c.index-contests-place.result c.loop-place-test.true c.index-contests-place.is
    (string_bytes c.args.text.now) (string_bytes c.loop-place.text) (string_bytes c.push_contest.new.text) c.loop-place.invariant c.in_ok-push_contest.ensures
