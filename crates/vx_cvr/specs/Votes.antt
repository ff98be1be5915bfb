-- What an exported contest of a sheet counts as. This project's own rules.
use Rattle.std.specs.Prelude.{ℕ, ◌+◌, ◌-◌, ◌&&◌, ◌||◌, ◌==◌, Bool, true, false, not, if◌then◌else◌, nat_lt, nat_le, List, [], ◌∷◌, length, codes, slice_index_or, Option, None, Some, is_none}
use Rattle.std.specs.List.{list_any, filter, range_with_len}
use Rattle.vx_grid.specs.declared.state.State.{State}
use Rattle.vx_grid.specs.declared.state.State.TheVariants.{Marked, Marginal, Clear}
use Rattle.vx_election_model.specs.declared.contest.Contest.{Contest}
use Rattle.vx_events.specs.declared.decision.WriteInName.{WriteInName}
use Rattle.vx_events.specs.declared.decision.WriteInName.TheVariants.{Words, Candidate}
use Rattle.vx_center.specs.declared.rows.Final.{Final}

-- a contest is overvoted where that was ruled, or where more options are selected than there are seats
abbrev pub is_overvoted : Contest → Final → Bool
is_overvoted contest final = final.ruled || nat_lt contest.seats (length final.selected)

abbrev pub overvotes : Contest → Final → ℕ
overvotes contest final = if is_overvoted contest final then contest.seats else 0

abbrev pub undervotes : Contest → Final → ℕ
undervotes contest final = if is_overvoted contest final then 0 else contest.seats - length final.selected

-- the words of a contest's status
abbrev pub status_words : Contest → Final → List (List ℕ)
status_words contest final =
    if is_overvoted contest final then codes "overvoted" ∷ []
    else (if length final.selected == 0 then codes "not-indicated" ∷ []
    else (if nat_lt (length final.selected) contest.seats then codes "undervoted" ∷ [] else []))

-- an option behind the candidates is a write-in slot
abbrev pub is_slot : Contest → ℕ → Bool
is_slot contest option = nat_le (length contest.choices) option

-- the write-in slots among the selected options
abbrev pub write_ins : Contest → Final → ℕ
write_ins contest final = length (filter (is_slot contest) final.selected)

-- the name that an option was given, if it is a slot with one
abbrev pub name_of : Contest → Final → ℕ → Option WriteInName
name_of contest final option =
    if is_slot contest option then slice_index_or final.names (option - length contest.choices) None else None

-- the candidate that a slot names
abbrev pub candidate_in : Option WriteInName → Option ℕ
candidate_in None = None
candidate_in (Some (Words words)) = None
candidate_in (Some (Candidate number)) = Some number

-- the candidate that an option's votes are for, where it is a slot that names one
abbrev pub candidate_of : Contest → Final → ℕ → Option ℕ
candidate_of contest final option = candidate_in (name_of contest final option)

abbrev pub is_candidate : ℕ → Option ℕ → Bool
is_candidate number None = false
is_candidate number (Some other) = number == other

-- a selected option is a candidate's own, or it is a slot below an option that names it
abbrev pub selects_before : Contest → Final → ℕ → ℕ → ℕ → Bool
selects_before contest final option number selected =
    (selected == number) || (nat_lt selected option && is_candidate number (candidate_of contest final selected))

abbrev pub is_selected_before : Contest → Final → ℕ → ℕ → Bool
is_selected_before contest final option number = list_any (selects_before contest final option number) final.selected

-- a slot that names a candidate who is selected already has no vote of its own
abbrev pub is_repeated : Contest → Final → ℕ → Option ℕ → Bool
is_repeated contest final option None = false
is_repeated contest final option (Some number) = is_selected_before contest final option number

-- how many votes a selected option has
abbrev pub votes_of : Contest → Final → ℕ → ℕ
votes_of contest final option =
    if is_overvoted contest final then 0
    else (if is_repeated contest final option (candidate_of contest final option) then 0 else 1)

-- the word for what an option was read as
abbrev pub indication : State → List ℕ
indication Marked = codes "yes"
indication Marginal = codes "unknown"
indication Clear = codes "no"

abbrev pub indication_of : Final → ℕ → List ℕ
indication_of final option = indication (slice_index_or final.read option Clear)

-- a slot without a name
abbrev pub is_unnamed : Contest → Final → ℕ → Bool
is_unnamed contest final option = is_slot contest option && is_none (name_of contest final option)

-- whether a selected option's vote can be given to someone, in a word
abbrev pub allocable : Contest → Final → ℕ → List ℕ
allocable contest final option =
    if is_overvoted contest final then codes "no"
    else (if is_unnamed contest final option then codes "unknown" else codes "yes")
