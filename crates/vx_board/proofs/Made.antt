-- Lists of values that are made one after the other.
use Rattle.std.proofs.Common.{◌≡◌, ◌+◌, ◌<◌, ℕ, List, [], ◌∷◌, ◌++◌, length, map, get_or, sym, ap, ◌∙◌}
use Rattle.std.proofs.lemmas.List.{get_or-map}
use Rattle.serde_json.specs.Data.{Data}
use Rattle.serde_json.specs.View.{view}
use Rattle.serde_json.specs.declared.value.Value.{Value}
use Rattle.std.specs.List.{range_with_len}
use Rattle.vx_base.proofs.Lists.{map-push}
use Rattle.vx_base.proofs.Ranges.{map-laid}
use Rattle.vx_center.specs.declared.rows.ExportSheet.{ExportSheet}
use Rattle.vx_board.specs.Ballots.{ballot_at, ballot_of, no_ballot}

-- what was made of the numbers so far, and of the next one
pub one_numbered : (make : ℕ → Data) (made : List Value) (i : ℕ) (value : Value)
    → view value ≡ make i → map view made ≡ map make (range_with_len 0 i)
    → map view (made ++ value ∷ []) ≡ map make (range_with_len 0 (i + 1))
one_numbered make made i value gives so_far =
    map-laid make [] (map view made) (map view (made ++ value ∷ [])) i so_far
    (map-push view made value ∙ ap (λ (d : Data). map view made ++ d ∷ []) gives)

-- the ballot at the place of a row is the row's
pub ballot_there : (rows : List ExportSheet) (place : ℕ) (row : ExportSheet) → place < length rows
    → row ≡ get_or rows place row → ballot_at (map ballot_of rows) place ≡ ballot_of row
ballot_there rows place row within is = get_or-map ballot_of rows place row no_ballot within ∙ sym (ap ballot_of is)
