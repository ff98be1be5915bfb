-- What the sheets of a count rank. A contest is exported where the row of its sheet in the export has it.
use Rattle.std.specs.Prelude.{ℕ, ◌&&◌, ◌||◌, ◌==◌, Bool, false, not, List, [], ◌∷◌, ◌++◌, length, map, find, fold, count_by, nat_lt, is_none, if◌then◌else◌, Option, Some, None}
use Rattle.std.specs.List.{flat_map, list_any, before_first}
use Rattle.vx_election_model.specs.declared.election.Election.{Election}
use Rattle.vx_rules.specs.declared.marks.ContestMarks.{ContestMarks}
use Rattle.vx_rules.specs.declared.marks.SheetMarks.{SheetMarks}
use Rattle.vx_events.specs.declared.event.Event.{Event}
use Rattle.vx_events.specs.Ascending.{is_ascending}
use Rattle.vx_center.specs.declared.rows.Final.{Final}
use Rattle.vx_center.specs.Exports.{row_of}
use Rattle.vx_center.specs.Sheets.{Added, sheets_in}
use Rattle.vx_ranked.specs.declared.groups.Group.{Group}
use Rattle.vx_ranked.specs.declared.sheets.SheetRankings.{SheetRankings}
use Rattle.vx_ranked.specs.Members.{is_among}

-- what an exported contest of a sheet counts as
abbrev pub final_on : List Final → ℕ → Option Final
final_on finals contest = find (λ (one : Final). one.contest == contest) finals

-- exported contests in the order of their places, each once
abbrev pub are_ascending : List Final → Bool
are_ascending finals = is_ascending (map (λ (one : Final). one.contest) finals)

-- the options that count as selected at a rank, which are candidates
abbrev pub named_by : Option Final → List ℕ
named_by None = []
named_by (Some one) = one.selected

-- a rank ends the list where a person ruled that it is overvoted, or where two or more options are selected
abbrev pub ends_list : Option Final → Bool
ends_list None = false
ends_list (Some one) = one.ruled || nat_lt 1 (length one.selected)

-- a candidate joins a list, if it isn't there
abbrev pub joined : List ℕ → ℕ → List ℕ
joined ranking candidate = if is_among candidate ranking then ranking else ranking ++ candidate ∷ []

-- the ranking of a sheet with those exported contests: the candidates of the ranks before the first that ends the list, each
-- once. A rank that isn't on the sheet, or at which nothing is selected, names none and is passed over
unfoldable pub ranking_of : List Final → List ℕ → List ℕ
ranking_of finals contests = fold joined [] (flat_map named_by (before_first ends_list (map (final_on finals) contests)))

-- a contest that was read is one of the group's
abbrev pub is_of_group : List ℕ → ContestMarks → Bool
is_of_group contests marks = is_among marks.contest contests

-- a contest of the group was read and isn't exported
abbrev pub waits_in : List Final → List ℕ → ContestMarks → Bool
waits_in finals contests marks = is_of_group contests marks && is_none (final_on finals marks.contest)

-- a sheet has a contest of the group that isn't exported, so it waits
abbrev pub is_waiting : List ℕ → SheetMarks → List Final → Bool
is_waiting contests sheet finals = list_any (waits_in finals contests) sheet.contests

-- a sheet has contests of the group, all exported, so it has a ranking
abbrev pub is_ranked : List ℕ → SheetMarks → List Final → Bool
is_ranked contests sheet finals = list_any (is_of_group contests) sheet.contests && not (is_waiting contests sheet finals)

-- the ranking of a sheet, if it has one
abbrev pub rankings_by : List ℕ → SheetMarks → List Final → List (List ℕ)
rankings_by contests sheet finals = if is_ranked contests sheet finals then ranking_of finals contests ∷ [] else []

-- a ranking, if there is one
abbrev pub list_of : Option (List ℕ) → List (List ℕ)
list_of None = []
list_of (Some ranking) = ranking ∷ []

-- the exported contests of a sheet that was added
abbrev pub finals_of : Election → List Event → Added → List Final
finals_of election kept added = (row_of election kept added).finals

-- the ranking of a sheet that was added, if it has one
abbrev pub rankings_on : Election → List Event → List ℕ → Added → List (List ℕ)
rankings_on election kept contests added = rankings_by contests added.sheet (finals_of election kept added)

-- whether a sheet that was added waits
abbrev pub waits_on : Election → List Event → List ℕ → Added → Bool
waits_on election kept contests added = is_waiting contests added.sheet (finals_of election kept added)

-- the rankings of the sheets, in the order of adding
abbrev pub rankings_of : Election → List Event → List ℕ → List (List ℕ)
rankings_of election kept contests = flat_map (rankings_on election kept contests) (sheets_in kept)

-- how many sheets wait
abbrev pub waiting_of : Election → List Event → List ℕ → ℕ
waiting_of election kept contests = count_by (waits_on election kept contests) (sheets_in kept)

-- what some of the sheets that were added rank in a group
abbrev pub ranked_by : Election → List Event → List Added → Group → SheetRankings
ranked_by election kept sheets group = record {
  rankings = flat_map (rankings_on election kept group.contests) sheets;
  waiting = count_by (waits_on election kept group.contests) sheets;
}

-- no sheets
abbrev pub none_ranked : SheetRankings
none_ranked = record { rankings = []; waiting = 0 }

-- what the sheets rank in some contests
abbrev pub contests_ranked : Election → List Event → List ℕ → SheetRankings
contests_ranked election kept contests = record {
  rankings = rankings_of election kept contests;
  waiting = waiting_of election kept contests;
}

-- what the sheets rank in a group
abbrev pub group_ranked : Election → List Event → Group → SheetRankings
group_ranked election kept group = contests_ranked election kept group.contests
