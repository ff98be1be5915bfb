-- Parties, districts and precincts, and lists of references to them.
use Rattle.std.specs.Prelude.{ℕ, List, [], length, map, Result, Ok, codes}
use Rattle.serde_json.specs.Data.{Data}
use Rattle.vx_json.specs.Paths.{element_path}
use Rattle.vx_base.specs.Results.{◌>>=◌}
use Rattle.vx_election.specs.declared.fault.ElectionFault.{ElectionFault}
use Rattle.vx_election_model.specs.declared.named.Named.{Named}
use Rattle.vx_election.specs.Ids.{reference_in, new_reference_in}
use Rattle.vx_election.specs.Members.{id_member, text_member, each_of}
use Rattle.vx_election_model.specs.Lists.{named_ids}

-- a party, a district or a precinct, with an id that none of those has
unfoldable pub named_at : List ℕ → List (List ℕ) → Data → Result Named ElectionFault
named_at path ids value = do
  id ← id_member value path ids
  name ← text_member value path (codes "name") 1 256
  Ok (record { id = id; name = name })

-- the same, after those before it in its list
abbrev pub named_in : List ℕ → List Named → Data → Result Named ElectionFault
named_in path found value = named_at (element_path path (length found)) (named_ids found) value

-- the elements of a list of them
unfoldable pub named_list_in : List ℕ → List Data → Result (List Named) ElectionFault
named_list_in path list = each_of (named_in path) [] list

-- a reference in a list
abbrev pub next_reference_in : List ℕ → List (List ℕ) → List ℕ → Data → Result ℕ ElectionFault
next_reference_in path ids found value = reference_in value (element_path path (length found)) ids

-- a list of references, which may repeat
unfoldable pub references_in : List ℕ → List (List ℕ) → List Data → Result (List ℕ) ElectionFault
references_in path ids list = each_of (next_reference_in path ids) [] list

-- a reference in a list that has each once
abbrev pub next_new_reference_in : List ℕ → List (List ℕ) → List ℕ → Data → Result ℕ ElectionFault
next_new_reference_in path ids found value = new_reference_in value (element_path path (length found)) ids found

-- a list of references, each once
unfoldable pub new_references_in : List ℕ → List (List ℕ) → List Data → Result (List ℕ) ElectionFault
new_references_in path ids list = each_of (next_new_reference_in path ids) [] list
