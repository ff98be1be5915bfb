use Rattle.std.proofs.Common.{◌+◌, ◌<◌, List, length, map, arith, subst}
use Rattle.std.proofs.lemmas.List.{take_all}
use Rattle.vx_rounds.specs.declared.piles.PiledBallot.{PiledBallot}
use Rattle.vx_rounds.specs.Rankings.{ranking_at}
use Rattle.vx_rounds.specs.Piles.{stands_in, Laid}
use Rattle.vx_rounds.proofs.Piled.{again-next, left-next, left-le}
use Rattle.vx_rounds.proofs.piles.Piles.lay_again.Goals as goal

pub returns-in_err-lay-clause-steps : goal.returns-in_err-lay-clause-steps
returns-in_err-lay-clause-steps g c =
    let within : c.loop-piled.piled-index < length c.args.pile.now = omega arith in
    let next = left-next c.args.ballots.now c.args.pile.now c.loop-piled.piled-index (record { ballot = 0; place = 0 }) within in
    omega (arith, next, left-le c.args.ballots.now c.args.pile.now (c.loop-piled.piled-index + 1), c.lay.ensures.steps, c.loop-piled.invariant.spent)

pub loop-piled-preserved : goal.loop-piled-preserved
loop-piled-preserved g c =
    let within : c.loop-piled.piled-index < length c.args.pile.now = omega arith in
    let next = left-next c.args.ballots.now c.args.pile.now c.loop-piled.piled-index (record { ballot = 0; place = 0 }) within in
    record {
      piles = c.lay.ensures.piles;
      laid = again-next c.args.ballots.now c.args.self.now c.loop-piled.self c.lay.new.self c.args.pile.now c.loop-piled.piled-index _ within
          c.loop-piled.invariant.laid c.in_ok-lay.ensures.laid;
      spent = omega (arith, next, c.lay.ensures.steps, c.loop-piled.invariant.spent);
    }

pub returns-clause-laid : goal.returns-clause-laid
returns-clause-laid g c =
    subst (λ (pile : List PiledBallot). Laid c.args.ballots.now (stands_in c.args.self.now) c.args.self.now c.loop-piled.self
    (map (λ (piled : PiledBallot). ranking_at c.args.ballots.now piled.ballot) pile))
    (take_all c.loop-piled.piled-index c.args.pile.now c.loop-piled-test.false) c.loop-piled.invariant.laid
