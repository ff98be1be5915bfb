-- What was decided of the sheets.
use Rattle.std.specs.Prelude.{ℕ, ◌==◌, if◌then◌else◌, List, [], ◌∷◌, fold, Option, Some, None}
use Rattle.std.specs.List.{flat_map}
use Rattle.vx_events.specs.declared.decision.Decision.{Decision}
use Rattle.vx_events.specs.declared.decision.Decision.TheVariants.{Selections, RuledOvervote, AcceptRead, NameWriteIn}
use Rattle.vx_events.specs.declared.decision.WriteInName.{WriteInName}
use Rattle.vx_events.specs.declared.event.Event.{Event}
use Rattle.vx_events.specs.declared.event.Event.TheVariants.{Add, Claim, Release, Decide}
use Rattle.vx_events.specs.declared.key.Key.{Key}
use Rattle.vx_center.specs.declared.decided.Decided.{Decided}
use Rattle.vx_center.specs.Sheets.{same_key}

-- what an event decides of the sheet with a key
abbrev pub decided_by : Key → Event → List Decided
decided_by key (Add other sheet) = []
decided_by key (Claim station other) = []
decided_by key (Release station other) = []
decided_by key (Decide station other contest decision) =
    if same_key key other then record { contest = contest; decision = decision } ∷ [] else []

-- what was decided of the sheet with a key, in order
abbrev pub decided_of : List Event → Key → List Decided
decided_of kept key = flat_map (decided_by key) kept

-- a decision of a contest
abbrev pub of_contest : ℕ → Decided → List Decision
of_contest contest decided = if decided.contest == contest then decided.decision ∷ [] else []

-- the decisions of a contest among those of its sheet, in order
abbrev pub decisions_on : ℕ → List Decided → List Decision
decisions_on contest decided = flat_map (of_contest contest) decided

-- the decisions of a contest of the sheet with a key, in order
abbrev pub decisions_of : List Event → Key → ℕ → List Decision
decisions_of kept key contest = decisions_on contest (decided_of kept key)

-- the last of Selections, RuledOvervote and AcceptRead
abbrev pub ruling_after : Option Decision → Decision → Option Decision
ruling_after before (Selections options) = Some (Selections options)
ruling_after before RuledOvervote = Some RuledOvervote
ruling_after before AcceptRead = Some AcceptRead
ruling_after before (NameWriteIn slot name) = before

-- how a contest was last ruled, if it was
abbrev pub ruling_of : List Decision → Option Decision
ruling_of decisions = fold ruling_after None decisions

-- the name of a write-in slot behind a decision
abbrev pub name_after : ℕ → Option WriteInName → Decision → Option WriteInName
name_after slot before (Selections options) = before
name_after slot before RuledOvervote = before
name_after slot before AcceptRead = before
name_after slot before (NameWriteIn other name) = if other == slot then Some name else before

-- the name that a write-in slot was last given, if it was; it stays when selections change
abbrev pub name_of : ℕ → List Decision → Option WriteInName
name_of slot decisions = fold (name_after slot) None decisions
