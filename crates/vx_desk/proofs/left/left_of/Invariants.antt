use Rattle.std.proofs.Common.{drop, map}
use Rattle.serde_json.specs.View.{view}
use Rattle.vx_desk.specs.Left.{IsSoFar}
use Rattle.vx_desk.proofs.left.left_of.Given as goal

-- what is left over so far, and what the events left leave over, are all
abbrev pub invariant-loop-event : goal.invariant-loop-event
invariant-loop-event l =
    IsSoFar l.center.election l.center.events l.batch l.sheets l.event-index (drop l.event-index l.center.events) (map view l.left.missing.items) l.left.waiting
