-- What a reading of the journal may answer.
use Rattle.std.specs.Prelude.{◌≡◌, ℕ, Bool, true, false, List, Result, Ok, Err}
use Rattle.vx_events.specs.declared.event.Event.{Event}
use Rattle.vx_refusals.specs.declared.journal.JournalStop.{JournalStop}
use Rattle.vx_io.specs.declared.outside.KeeperError.{KeeperError}
use Rattle.vx_io.specs.declared.outside.KeeperError.TheVariants as keeper
use Rattle.vx_center.specs.Kept.{Kept}
use Rattle.vx_command.specs.declared.halt.Halt.{Halt}
use Rattle.vx_command.specs.declared.halt.Halt.TheVariants.{Journal, KeeperFault, NoMemory}
use Rattle.vx_journal.specs.declared.fault.ReplayFault.{ReplayFault}
use Rattle.vx_journal.specs.declared.fault.ReplayFault.TheVariants.{Stopped, Failed, OutOfMemory}

-- the answer is a fault of the keeper
abbrev pub replay_failed : {A : Type 0} → Result A ReplayFault → Bool
replay_failed (Ok given) = false
replay_failed (Err (Stopped index stop)) = false
replay_failed (Err Failed) = true
replay_failed (Err OutOfMemory) = false

-- it answers the events of the journal or what stops its reading, unless the keeper failed or memory ran out
abbrev pub Replays : Result (List Event) (ℕ × JournalStop) → Result Kept ReplayFault → Type 0
Replays defined (Ok center) = defined ≡ Ok center.events
Replays defined (Err (Stopped index stop)) = defined ≡ Err (index, stop)
Replays defined (Err Failed) = Unit {0}
Replays defined (Err OutOfMemory) = Unit {0}

-- the same of records behind others, with the events that are kept then
abbrev pub ReadsAll : Result (List Event) (ℕ × JournalStop) → List Event → Result (Unit {0}) ReplayFault → Type 0
ReadsAll defined kept (Ok done) = defined ≡ Ok kept
ReadsAll defined kept (Err (Stopped index stop)) = defined ≡ Err (index, stop)
ReadsAll defined kept (Err Failed) = Unit {0}
ReadsAll defined kept (Err OutOfMemory) = Unit {0}

-- the same of the one record of an index, which is read without the keeper
abbrev pub ReadsOne : ℕ → Result (List Event) JournalStop → List Event → Result (Unit {0}) ReplayFault → Type 0
ReadsOne index defined kept (Ok done) = defined ≡ Ok kept
ReadsOne index defined kept (Err (Stopped at stop)) = (at ≡ index) × (defined ≡ Err stop)
ReadsOne index defined kept (Err Failed) = ⊥
ReadsOne index defined kept (Err OutOfMemory) = Unit {0}

-- the keeper refused a call
abbrev pub keeper_fault : KeeperError → ReplayFault
keeper_fault keeper.Failed = Failed
keeper_fault keeper.OutOfMemory = OutOfMemory

-- why a command halts whose journal wasn't read
abbrev pub replay_halt : ReplayFault → Halt
replay_halt (Stopped index stop) = Journal index stop
replay_halt Failed = KeeperFault
replay_halt OutOfMemory = NoMemory
