-- What a contest of a sheet counts as.
use Rattle.std.specs.Prelude.{ℕ, ◌+◌, Bool, true, false, if◌then◌else◌, List, [], ◌∷◌, map, Option, Some, None}
use Rattle.std.specs.List.{range_with_len}
use Rattle.vx_grid.specs.declared.state.State.{State}
use Rattle.vx_election_model.specs.declared.contest.Contest.{Contest}
use Rattle.vx_rules.specs.Reasons.{is_marked}
use Rattle.vx_events.specs.declared.decision.Decision.{Decision}
use Rattle.vx_events.specs.declared.decision.Decision.TheVariants.{Selections, RuledOvervote, AcceptRead, NameWriteIn}
use Rattle.vx_events.specs.declared.decision.WriteInName.{WriteInName}
use Rattle.vx_center.specs.Decisions.{name_of}

-- the options that pass, by their numbers, the first of which is so much
abbrev pub options_from : (State → Bool) → ℕ → List State → List ℕ
options_from passes number [] = []
options_from passes number (state ∷ states) =
    if passes state then number ∷ options_from passes (number + 1) states else options_from passes (number + 1) states

-- the options that were read as marked
abbrev pub marked_options : List State → List ℕ
marked_options states = options_from is_marked 0 states

-- the options that count as selected: those of the last ruling where it is Selections, else those
-- that were read as marked
abbrev pub selected_by : List State → Option Decision → List ℕ
selected_by states None = marked_options states
selected_by states (Some (Selections options)) = options
selected_by states (Some RuledOvervote) = marked_options states
selected_by states (Some AcceptRead) = marked_options states
selected_by states (Some (NameWriteIn slot name)) = marked_options states

-- whether the last ruling is that the contest is overvoted
abbrev pub is_overvoted : Option Decision → Bool
is_overvoted None = false
is_overvoted (Some (Selections options)) = false
is_overvoted (Some RuledOvervote) = true
is_overvoted (Some AcceptRead) = false
is_overvoted (Some (NameWriteIn slot name)) = false

-- how many write-in slots a contest has: one for each seat where write-ins are allowed. Slot w is the
-- option that stands w behind the choices
abbrev pub slots_of : Contest → ℕ
slots_of contest = if contest.write_ins then contest.seats else 0

-- the name of each slot
abbrev pub names_of : Contest → List Decision → List (Option WriteInName)
names_of contest decisions = map (λ slot. name_of slot decisions) (range_with_len 0 (slots_of contest))
