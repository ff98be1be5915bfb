-- The contests of bubbles lie in a span.
use Rattle.std.specs.Prelude.{◌≤◌, List, All}
use Rattle.vx_layout.specs.declared.bubbles.Bubble.{Bubble}
use Rattle.vx_sheet.specs.declared.marks.Span.{Span}

-- a bubble is of a contest of the span
abbrev pub IsWithin : Span → Bubble → Type 0
IsWithin span bubble = (span.least ≤ bubble.contest) × (bubble.contest ≤ span.greatest)

-- each bubble is
abbrev pub AreWithin : Span → List Bubble → Type 0
AreWithin span bubbles = All (IsWithin span) bubbles
