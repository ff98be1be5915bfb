use Rattle.std.proofs.Common.{List, subst, arith}
use Rattle.std.proofs.lemmas.List.{take_all}
use Rattle.vx_layout.specs.declared.bubbles.Bubble.{Bubble}
use Rattle.vx_sheet.specs.Spans.{AreWithin}
use Rattle.vx_sheet.proofs.Within.{within-more}
use Rattle.vx_sheet.proofs.marks.widened.Goals as goal

pub loop-bubble-preserved : goal.loop-bubble-preserved
loop-bubble-preserved c =
    let wide = c.reaching-wide.ensures in
    let none : Bubble = record { contest = 0; option = 0; col = 0; row = 0 } in
    record {
      within =
          within-more c.loop-bubble.wide c.reaching-wide.result c.args.bubbles.now c.loop-bubble.bubble-index none
          (omega arith) wide.least wide.greatest wide.from wide.to c.loop-bubble.invariant.within;
      least = omega (arith, wide.least, c.loop-bubble.invariant.least);
      greatest = omega (arith, wide.greatest, c.loop-bubble.invariant.greatest);
    }

pub returns-clause-within : goal.returns-clause-within
returns-clause-within c =
    subst (λ (bubbles : List Bubble). AreWithin c.loop-bubble.wide bubbles)
    (take_all c.loop-bubble.bubble-index c.args.bubbles.now (omega arith)) c.loop-bubble.invariant.within
