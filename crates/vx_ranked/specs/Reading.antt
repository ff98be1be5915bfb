-- The groups that bytes give, or their first fault. A file is read depth first, element by element.
use Rattle.std.specs.Prelude.{ℕ, ◌||◌, List, [], ◌∷◌, ◌++◌, length, if◌then◌else◌, Result, Ok, Err, ok_or, codes}
use Rattle.std.specs.Str.{is_utf8}
use Rattle.serde_json.specs.Data.{Data}
use Rattle.serde_json.specs.Read.{read}
use Rattle.vx_base.specs.Results.{◌>>=◌}
use Rattle.vx_json.specs.Paths.{member_path, element_path}
use Rattle.vx_json.specs.Reading.{need_in}
use Rattle.vx_election_model.specs.declared.election.Election.{Election}
use Rattle.vx_layout.specs.declared.plan.CardPlan.{CardPlan}
use Rattle.vx_ranked.specs.declared.fault.RankedFault.{RankedFault}
use Rattle.vx_ranked.specs.declared.fault.RankedFault.TheVariants.{NotJson, RepeatedId, UnknownId, Unlike}
use Rattle.vx_ranked.specs.declared.groups.Group.{Group}
use Rattle.vx_ranked.specs.Faults.{of_json}
use Rattle.vx_ranked.specs.Alike.{place_of, fits_group}
use Rattle.vx_ranked.specs.Members.{id_in, list_member, is_group, is_among, is_named}
use Rattle.vx_ranked.specs.Splits.{cards_checked}

-- an element read after those before it, and put behind them
abbrev pub with_next : {A : Type 0} → (List A → Data → Result A RankedFault) → List A → Data → Result (List A) RankedFault
with_next read_one found value = read_one found value >>= λ one. Ok (found ++ one ∷ [])

-- each element in order, read after those before it
abbrev pub each_of : {A : Type 0} → (List A → Data → Result A RankedFault) → List A → List Data → Result (List A) RankedFault
each_of read_one found [] = Ok found
each_of read_one found (value ∷ values) = with_next read_one found value >>= λ more. each_of read_one more values

-- the id of a group, which none of those has
unfoldable pub new_id_member : Data → List ℕ → List Group → Result (List ℕ) RankedFault
new_id_member value path groups = do
  member ← of_json (need_in value path (codes "id"))
  id ← id_in member (member_path path (codes "id"))
  if is_group groups id then Err (RepeatedId (member_path path (codes "id")) id) else Ok id

-- the place of a contest that is named nowhere before: neither in an earlier group nor among those of its own, which it has to fit
unfoldable pub contest_at : Election → List Group → List ℕ → List ℕ → Data → Result ℕ RankedFault
contest_at election groups found path value = do
  id ← id_in value path
  place ← ok_or (place_of election.contests id) (UnknownId path id)
  if is_named groups place || is_among place found then Err (RepeatedId path id)
      else if fits_group election.contests found place then Ok place
      else Err (Unlike path)

-- the same in a list
abbrev pub contest_in : Election → List Group → List ℕ → List ℕ → Data → Result ℕ RankedFault
contest_in election groups path found value = contest_at election groups found (element_path path (length found)) value

-- the places of the contests of a group, rank 1 first
unfoldable pub contests_in : Election → List Group → List ℕ → List Data → Result (List ℕ) RankedFault
contests_in election groups path list = each_of (contest_in election groups path) [] list

-- a group behind those before it, with 1 to 10 contests
unfoldable pub group_at : Election → List ℕ → List Group → Data → Result Group RankedFault
group_at election path groups value = do
  id ← new_id_member value path groups
  list ← list_member value path (codes "contests") 1 10
  contests ← contests_in election groups (member_path path (codes "contests")) list
  Ok (record { id = id; contests = contests })

-- the same in a list
abbrev pub group_in : Election → List ℕ → List Group → Data → Result Group RankedFault
group_in election path groups value = group_at election (element_path path (length groups)) groups value

-- the groups of a file, at most 100
unfoldable pub groups_in : Election → Data → Result (List Group) RankedFault
groups_in election value = do
  list ← list_member value [] (codes "ranked") 0 100
  each_of (group_in election (codes "ranked")) [] list

-- the value that the bytes are, where they are JSON in UTF-8
unfoldable pub value_in : List ℕ → Result Data RankedFault
value_in bytes = if is_utf8 bytes then ok_or (read bytes) NotJson else Err NotJson

-- the groups that the bytes are, or their first fault; where the file has none, the first card that splits a group
unfoldable pub groups_in_bytes : Election → List CardPlan → List ℕ → Result (List Group) RankedFault
groups_in_bytes election plans bytes = do
  value ← value_in bytes
  groups ← groups_in election value
  cards_checked groups plans >>= λ _. Ok groups
