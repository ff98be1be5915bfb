use Rattle.std.specs.Prelude.{slice_index}
use Rattle.vx_sampling.specs.Standing.{is_as, wins}
use Rattle.vx_sampling.proofs.Ranges.{one_kept}
use Rattle.vx_sampling.proofs.sides.choices_where.Goals as goal

pub loop-choice-preserved : goal.loop-choice-preserved
loop-choice-preserved c =
    one_kept (λ choice. is_as c.args.winning (wins c.args.seats c.args.votes.now (slice_index c.args.votes.now choice)))
    c.loop-choice.choices c.push_where.new.choices c.loop-choice.choice c.stands-is_so.result c.loop-choice.invariant c.stands-is_so.ensures c.in_ok-push_where.ensures
