use Rattle.vx_sampling.proofs.Drawn.{draw_found}
use Rattle.vx_sampling.proofs.finding.drawn_at.Goals as goal

pub returns-clause-exact : goal.returns-clause-exact
returns-clause-exact c =
    draw_found c.args.sides.now c.args.hand.now c.args._records.now c.args.sample.now.draws c.as_slice-draws.result.now c.args.sample.now.drawn.items
    c.as_slice-drawn.result.now c.args.at c.index-drawn-at.result c.in_ok-finding.finding c.requires.sample.are c.as_slice-draws.ensures
    c.as_slice-drawn.ensures.value c.requires.within c.index-drawn-at.is c.in_ok-finding.ensures.exact
