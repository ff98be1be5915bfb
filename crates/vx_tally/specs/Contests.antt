-- The units of a report, and the contests of its election with their selections.
use Rattle.std.specs.Prelude.{◌≡◌, All, ℕ, ◌≤◌, List, [], ◌∷◌, ◌++◌, length, map, Result, Ok, codes}
use Rattle.std.specs.List.{flat_map}
use Rattle.serde_json.specs.Data.{Data}
use Rattle.vx_json.specs.Paths.{member_path, element_path}
use Rattle.vx_base.specs.Results.{◌>>=◌}
use Rattle.vx_tally.specs.declared.fault.ReportFault.{ReportFault}
use Rattle.vx_tally.specs.declared.report.ReportContest.{ReportContest}
use Rattle.vx_tally.specs.Names as names
use Rattle.vx_tally.specs.Members.{list_limit, id_member, list_member, first_member, each_of}

-- the ids of contests
abbrev pub contest_ids : List ReportContest → List (List ℕ)
contest_ids contests = map (λ (contest : ReportContest). contest.id) contests

-- the ids of all their selections
abbrev pub selection_ids : List ReportContest → List (List ℕ)
selection_ids contests = flat_map (λ (contest : ReportContest). contest.selections) contests

-- the ids of the selections of each
abbrev pub own_selections : List ReportContest → List (List (List ℕ))
own_selections contests = map (λ (contest : ReportContest). contest.selections) contests

-- contests, and beside them their ids and those of their selections
pub record IsIndexed (contests : List ReportContest) (ids : List (List ℕ)) (selections : List (List (List ℕ))) : Type 0 where
  pub ids_are : ids ≡ contest_ids contests
  pub selections_are : selections ≡ own_selections contests
  pub few : length contests ≤ list_limit
  pub each_few : All (λ (own : List (List ℕ)). length own ≤ list_limit) selections

-- the id of an object of a list, which none before the list is, nor any before it in the list
abbrev pub own_id_in : List ℕ → List (List ℕ) → List (List ℕ) → Data → Result (List ℕ) ReportFault
own_id_in path before found value = id_member value (element_path path (length found)) (codes "@id") (before ++ found)

-- the ids of the objects of a list
unfoldable pub own_ids_in : List ℕ → List (List ℕ) → List Data → Result (List (List ℕ)) ReportFault
own_ids_in path before list = each_of (own_id_in path before) [] list

-- the units of a report
unfoldable pub units_in : Data → Result (List (List ℕ)) ReportFault
units_in value = do
  list ← list_member value [] (codes "GpUnit") list_limit
  own_ids_in (codes "GpUnit") [] list

-- a contest, after those before it, whose ids and whose selections' ids are told
unfoldable pub contest_at : List ℕ → List (List ℕ) → List (List ℕ) → Data → Result ReportContest ReportFault
contest_at path ids before value = do
  id ← id_member value path (codes "@id") ids
  list ← list_member value path names.contest_selection list_limit
  selections ← own_ids_in (member_path path names.contest_selection) before list
  Ok (record { id = id; selections = selections })

-- the same, after those contests
abbrev pub contest_in : List ℕ → List ReportContest → Data → Result ReportContest ReportFault
contest_in path found value = contest_at (element_path path (length found)) (contest_ids found) (selection_ids found) value

-- those contests with the next
unfoldable pub with_contest : List ℕ → List ReportContest → Data → Result (List ReportContest) ReportFault
with_contest path found value = contest_at path (contest_ids found) (selection_ids found) value >>= λ one. Ok (found ++ one ∷ [])

-- the contests of a list
unfoldable pub contest_list_in : List ℕ → List Data → Result (List ReportContest) ReportFault
contest_list_in path list = each_of (contest_in path) [] list

-- where the one election of a report stands
abbrev pub election_path : List ℕ
election_path = element_path (codes "Election") 0

-- the contests of a report, those of its first election
unfoldable pub contests_in : Data → Result (List ReportContest) ReportFault
contests_in value = do
  election ← first_member value [] (codes "Election")
  list ← list_member election election_path (codes "Contest") list_limit
  contest_list_in (member_path election_path (codes "Contest")) list
