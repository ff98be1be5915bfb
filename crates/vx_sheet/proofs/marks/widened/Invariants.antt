use Rattle.std.proofs.Common.{◌≤◌, take}
use Rattle.vx_sheet.specs.Spans.{AreWithin}
use Rattle.vx_sheet.proofs.marks.widened.Given as goal

-- the contests of the bubbles so far
abbrev pub invariant-loop-bubble : goal.invariant-loop-bubble
invariant-loop-bubble l = record {
  within : AreWithin l.wide (take l.bubble-index l.bubbles);
  least : l.wide.least ≤ l.fn.span.least;
  greatest : l.fn.span.greatest ≤ l.wide.greatest;
}
