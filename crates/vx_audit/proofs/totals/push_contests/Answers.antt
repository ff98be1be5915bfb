use Rattle.std.specs.Prelude.{string_bytes}
use Rattle.vx_tally.specs.Running.{summed_in}
use Rattle.vx_audit.specs.Totals.{contest_totals}
use Rattle.vx_audit.proofs.Walked.{one-laid}
use Rattle.vx_audit.proofs.totals.push_contests.Goals as goal

pub loop-place-preserved : goal.loop-place-preserved
loop-place-preserved c =
    one-laid (contest_totals (summed_in c.args.totals.now)) c.args.contests.now c.loop-place.place c.index-contests-place.result c.loop-place-test.true c.index-contests-place.is
    (string_bytes c.args.text.now) (string_bytes c.loop-place.text) (string_bytes c.push_contest.new.text) c.loop-place.invariant c.in_ok-push_contest.ensures
