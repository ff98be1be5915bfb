use Rattle.std.proofs.Common.{◌≡◌, map, take}
use Rattle.vx_simulate.specs.Marks as marks
use Rattle.vx_simulate.proofs.marks.marks_of.Given as goal

-- the marks so far
abbrev pub invariant-loop-bubble : goal.invariant-loop-bubble
invariant-loop-bubble l = l.marked.items ≡ map (marks.is_marked l.drawn) (take l.bubble-index l.plan.bubbles)
