use Rattle.std.proofs.Common.{List, subst}
use Rattle.vx_layout.specs.declared.bubbles.Bubble.{Bubble}
use Rattle.vx_sheet.specs.Spans.{AreWithin}
use Rattle.vx_sheet.proofs.Within.{within-wider}
use Rattle.vx_sheet.proofs.marks.span_of.Goals as goal

pub returns-clause-front : goal.returns-clause-front
returns-clause-front c =
    subst (λ (bubbles : List Bubble). AreWithin c.widened.result bubbles) c.bubbles_on.ensures
    (within-wider c.widened-one.result c.widened.result c.bubbles_on.result.now c.widened.ensures.least c.widened.ensures.greatest c.widened-one.ensures.within)
