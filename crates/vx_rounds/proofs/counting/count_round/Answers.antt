use Rattle.std.proofs.Common.{ap, ◌∙◌}
use Rattle.vx_rounds.specs.Rounds.{out_of}
use Rattle.vx_rounds.proofs.Counted.{few-counts, small-counts, round-is}
use Rattle.vx_rounds.proofs.counting.count_round.Goals as goal

pub decide-decision-requires-clause-few : goal.decide-decision-requires-clause-few
decide-decision-requires-clause-few c =
    few-counts c.args.candidates c.args._ballots.now c.args.piles.now c.requires c.as_slice.result.now
    (c.as_slice.ensures ∙ c.in_ok-counts.ensures) c.ranges.candidates.fits

pub decide-decision-requires-clause-small : goal.decide-decision-requires-clause-small
decide-decision-requires-clause-small c =
    small-counts c.args.candidates c.args._ballots.now c.args.piles.now c.requires c.as_slice.result.now (c.as_slice.ensures ∙ c.in_ok-counts.ensures)

pub returns-clause-round : goal.returns-clause-round
returns-clause-round c =
    round-is c.args.candidates c.args._ballots.now c.args.piles.now c.requires c.in_ok-counts.counts c.decide-decision.result.out c.in_ok-counts.ensures
    (c.decide-decision.ensures.out ∙ ap out_of c.as_slice.ensures)
