use Rattle.std.proofs.Common.{◌≡◌, ◌<◌, length, ap, arith}
use Rattle.vx_base.proofs.Results.{Unless-weaker}
use Rattle.vx_styles.specs.Cards.{cards_of}
use Rattle.vx_layout.specs.Faults.{is_no_memory}
use Rattle.vx_layout.proofs.Listed.{first-stops, all-listed}
use Rattle.vx_layout.proofs.planning.plan_list.Goals as goal

pub returns-in-Err : goal.returns-in-Err
returns-in-Err c =
    let there : c.loop-card.card < length (cards_of c.args.election.now) = omega (arith, ap length c.requires.listed, c.loop-card-test.true) in
    Unless-weaker (is_no_memory c.in-Err.fault)
    (λ stop. first-stops c.args.election.now c.loop-card.card c.loop-card.plans c.in-Err.fault there c.loop-card.invariant stop)
    c.in-Err.ensures

pub returns : goal.returns
returns c =
    let all : c.loop-card.card ≡ length (cards_of c.args.election.now) = omega (arith, ap length c.requires.listed, c.loop-card-test.false) in
    all-listed c.args.election.now c.loop-card.card c.loop-card.plans all c.loop-card.invariant
