use Rattle.std.proofs.Common.{◌<◌, ◌∙◌, length, arith}
use Rattle.vx_rounds.proofs.Counted.{counted-yes, counted-no}
use Rattle.vx_rounds.proofs.counting.counts_in.Goals as goal
use Rattle.vx_rounds.proofs.counting.counts_in.Goals.{then-index+in_ok-push, else-index}

pub loop-candidate-preserved : goal.loop-candidate-preserved
loop-candidate-preserved c =
    let all = c.requires.all in
    let many = c.requires.piles.as_many in
    let within : c.loop-candidate.candidate < length c.args.piles.now.standing.items = omega (arith, all) in
    let has : c.loop-candidate.candidate < length c.args.piles.now.piles.items = omega (arith, within, many) in
    elim c.if-index.branch [
      | then-index+in_ok-push w ↦
          counted-yes c.args.piles.now c.loop-candidate.counts c.if-index.counts c.loop-candidate.candidate w.len.result c.index.result.now w.index-then-index.result.now
          c.loop-candidate.invariant (w.counts-is ∙ w.in_ok-push.ensures) w.len.ensures w.index-then-index.ensures has c.index.ensures within w.if-index.true
      | else-index w ↦
          counted-no c.args.piles.now c.loop-candidate.counts c.if-index.counts c.loop-candidate.candidate c.index.result.now
          c.loop-candidate.invariant w.counts-is c.index.ensures within w.if-index.false
    ]
