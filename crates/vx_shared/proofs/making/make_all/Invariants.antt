use Rattle.std.proofs.Common.{◌≡◌, ◌+◌, ◌≤◌, length, take}
use Rattle.vx_shared.specs.Gained.{MakesAlso}
use Rattle.vx_shared.proofs.making.make_all.Given as goal

-- the events before this place were made
abbrev pub invariant-loop-event : goal.invariant-loop-event
invariant-loop-event g l = record {
  also : MakesAlso l.fn.pass (take l.event-index l.events) l.now;
  belongs : l.now.of ≡ l.fn.pass.of;
  origin : l.now.origin ≡ l.fn.pass.origin;
  calls : length l.events ≤ l.now.calls + l.event-index;
}
