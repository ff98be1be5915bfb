-- Parts of the texts in which a sheet is written. Only private clauses cite them.
use Rattle.std.specs.Prelude.{ℕ, ◌+◌, ◌/◌, false, List, [], ◌∷◌, ◌++◌, codes, map, slice_index_or}
use Rattle.std.specs.Fmt.{decimal}
use Rattle.json.specs.Print.{quoted}
use Rattle.serde_json.specs.Data.{Data}
use Rattle.serde_json.specs.View.{items_of}
use Rattle.serde_json.specs.Written.{compact_text, items_text}
use Rattle.vx_center.specs.declared.rows.ExportSheet.{ExportSheet}
use Rattle.vx_election_model.specs.declared.election.Election.{Election}
use Rattle.vx_styles.specs.declared.card.Card.{Card}
use Rattle.vx_styles.specs.Cards.{no_style}
use Rattle.vx_cvr.specs.Json.{text}
use Rattle.vx_cvr.specs.Names.{precinct_name}
use Rattle.vx_cvr.specs.Report.{no_precinct}

-- the items of a list that are made of these, behind its opening bracket
abbrev pub items : {X : Type 0} → (X → Data) → List X → List ℕ
items make xs = items_text false (items_of (map make xs))

-- members of an object behind others, before its closing brace
abbrev pub later_members : List (List ℕ × Data) → List ℕ
later_members [] = []
later_members (named ∷ others) = 44 ∷ (quoted named.0 ++ 58 ∷ (compact_text named.1 ++ later_members others))

-- the members of a sheet that tell of its card and its batch
abbrev pub origin : Election → Card → ExportSheet → List (List ℕ × Data)
origin election card row =
    (codes "BallotSheetId", text (decimal ((row.front + 1) / 2)))
    ∷ (codes "BallotStyleId", text (slice_index_or election.styles card.style no_style).id)
    ∷ (codes "BallotStyleUnitId", text (precinct_name (slice_index_or election.precincts card.precinct no_precinct).id))
    ∷ (codes "BatchId", text row.key.batch) ∷ []
