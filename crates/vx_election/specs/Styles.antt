-- Ballot styles, and how many cards they make.
use Rattle.std.specs.Prelude.{ℕ, List, [], length, map, sum_by, Result, Ok, codes}
use Rattle.serde_json.specs.Data.{Data}
use Rattle.vx_json.specs.Paths.{member_path, element_path}
use Rattle.vx_base.specs.Results.{◌>>=◌}
use Rattle.vx_election.specs.declared.fault.ElectionFault.{ElectionFault}
use Rattle.vx_election_model.specs.declared.named.Named.{Named}
use Rattle.vx_election_model.specs.declared.style.Style.{Style}
use Rattle.vx_election.specs.Members.{id_member, optional_reference, list_member, each_of}
use Rattle.vx_election_model.specs.Lists.{named_ids}
use Rattle.vx_election.specs.Parts.{new_references_in}
use Rattle.vx_election_model.specs.Lists.{style_ids}

-- the places that a style names under a member, each once
unfoldable pub style_places_in : List Named → Data → List ℕ → List ℕ → Result (List ℕ) ElectionFault
style_places_in named value path name = do
  list ← list_member value path name 2000
  new_references_in (member_path path name) (named_ids named) list

-- a style with an id that none of those has
unfoldable pub style_at : List Named → List Named → List Named → List ℕ → List (List ℕ) → Data → Result Style ElectionFault
style_at parties districts precincts path ids value = do
  id ← id_member value path ids
  its_precincts ← style_places_in precincts value path (codes "precincts")
  its_districts ← style_places_in districts value path (codes "districts")
  party ← optional_reference value path (codes "partyId") (named_ids parties)
  Ok (record { id = id; precincts = its_precincts; districts = its_districts; party = party })

-- the same, after those before it
abbrev pub style_in : List Named → List Named → List Named → List ℕ → List Style → Data → Result Style ElectionFault
style_in parties districts precincts path found value = style_at parties districts precincts (element_path path (length found)) (style_ids found) value

-- the styles
unfoldable pub styles_in : List Named → List Named → List Named → List ℕ → List Data → Result (List Style) ElectionFault
styles_in parties districts precincts path list = each_of (style_in parties districts precincts path) [] list
