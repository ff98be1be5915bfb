-- The pieces of a report, joined, are the report.
use Rattle.std.proofs.Common.{◌≡◌, ℕ, Bool, true, false, List, [], ◌∷◌, ◌++◌, ◌+◌, ◌<◌, drop, get_or, length, map, refl, ap, sym, ◌∙◌, append_assoc, append-nil}
use Rattle.serde_json.specs.Data.{Data}
use Rattle.serde_json.specs.View.{items_of}
use Rattle.serde_json.specs.Written.{comma_if, compact_text, items_text, members_text}
use Rattle.serde_json.proofs.OnLiterals.{serde_json_on_literals}
use Rattle.std.proofs.lemmas.List.{drop_more}
use Rattle.std.proofs.lemmas.List.Concat.{flat_map-append}
use Rattle.vx_election_model.specs.declared.election.Election.{Election}
use Rattle.vx_events.specs.declared.event.Event.{Event}
use Rattle.vx_center.specs.declared.rows.ExportSheet.{ExportSheet}
use Rattle.vx_center.specs.Exports.{row_at}
use Rattle.vx_cvr.specs.Json.{members}
use Rattle.vx_cvr.specs.Laws.{PiecesAreTheReport}
use Rattle.vx_cvr.specs.Pieces.{front_piece, joined, last_piece, report_pieces, sheet_piece, sheet_pieces}
use Rattle.vx_cvr.specs.Report.{behind_sheets, report_of, report_over, sheet}
use Rattle.vx_cvr.specs.Rows.{rows_of}

-- the sheets' pieces and the closing bracket are the items of the list
sheets_joined : (election : Election) (is_later : Bool) (rows : List ExportSheet) (rest : List ℕ)
    → joined (sheet_pieces election is_later rows) ++ 93 ∷ rest ≡ items_text is_later (items_of (map (sheet election) rows)) ++ rest
unfolding sheet_piece
sheets_joined election is_later [] rest = refl
sheets_joined election is_later (row ∷ rows) rest =
    let comma : List ℕ = comma_if is_later in
    let own : List ℕ = compact_text (sheet election row) in
    let others : List ℕ = items_text true (items_of (map (sheet election) rows)) in
    append_assoc (comma ++ own) (joined (sheet_pieces election true rows)) (93 ∷ rest)
    ∙ ap (λ (text : List ℕ). (comma ++ own) ++ text) (sheets_joined election true rows rest)
    ∙ sym (append_assoc (comma ++ own) others rest)
    ∙ ap (λ (text : List ℕ). text ++ rest) (append_assoc comma own others)

-- a report is what stands before its sheets, the sheets, and the members behind
in_parts : (election : Election) (rows : List ExportSheet) (moment device : List ℕ)
    → front_piece ++ (items_text false (items_of (map (sheet election) rows)) ++ members_text true (members (behind_sheets election moment device)))
    ≡ compact_text (report_over election rows moment device)
unfolding front_piece serde_json_on_literals
in_parts election rows moment device = refl

pub pieces_joined : PiecesAreTheReport
unfolding report_pieces last_piece report_of
pieces_joined election kept moment device =
    let rows : List ExportSheet = rows_of election kept in
    let sheets : List (List ℕ) = sheet_pieces election false rows in
    let items : List ℕ = items_text false (items_of (map (sheet election) rows)) in
    let behind : List ℕ = members_text true (members (behind_sheets election moment device)) in
    let last : List ℕ = 93 ∷ (behind ++ 10 ∷ []) in
    let rest : joined (sheets ++ last ∷ []) ≡ (items ++ behind) ++ 10 ∷ [] =
    flat_map-append (λ (piece : List ℕ). piece) sheets (last ∷ [])
    ∙ ap (λ (text : List ℕ). joined sheets ++ text) (append-nil last)
    ∙ sheets_joined election false rows (behind ++ 10 ∷ [])
    ∙ sym (append_assoc items behind (10 ∷ [])) in
    ap (λ (text : List ℕ). front_piece ++ text) rest
    ∙ sym (append_assoc front_piece (items ++ behind) (10 ∷ []))
    ∙ ap (λ (text : List ℕ). text ++ 10 ∷ []) (in_parts election rows moment device)

-- what stands before the sheets, these, and the rest are the pieces
pub in_pieces : (election : Election) (kept : List Event) (moment device : List ℕ)
    → (front_piece ++ joined (sheet_pieces election false (rows_of election kept))) ++ last_piece election moment device
    ≡ joined (report_pieces election kept moment device)
unfolding report_pieces
in_pieces election kept moment device =
    let sheets : List (List ℕ) = sheet_pieces election false (rows_of election kept) in
    let last : List ℕ = last_piece election moment device in
    append_assoc front_piece (joined sheets) last
    ∙ ap (λ (text : List ℕ). front_piece ++ text)
    (ap (λ (text : List ℕ). joined sheets ++ text) (sym (append-nil last)) ∙ sym (flat_map-append (λ (piece : List ℕ). piece) sheets (last ∷ [])))

-- one sheet more is written
pub pieces_more : (election : Election) (kept : List Event) (places : List ℕ) (i : ℕ) (is_later : Bool) (place : ℕ) (old now all : List ℕ)
    → i < length places → place ≡ get_or places i 0 → now ≡ old ++ sheet_piece election is_later (row_at election kept place)
    → old ++ joined (sheet_pieces election is_later (map (row_at election kept) (drop i places))) ≡ all
    → now ++ joined (sheet_pieces election true (map (row_at election kept) (drop (i + 1) places))) ≡ all
pieces_more election kept places i is_later place old now all within is pushed so_far =
    let piece : List ℕ = sheet_piece election is_later (row_at election kept place) in
    let rest : List ℕ = joined (sheet_pieces election true (map (row_at election kept) (drop (i + 1) places))) in
    let from_here : drop i places ≡ place ∷ drop (i + 1) places =
    drop_more places i 0 within ∙ ap (λ (p : ℕ). p ∷ drop (i + 1) places) (sym is) in
    ap (λ (text : List ℕ). text ++ rest) pushed
    ∙ append_assoc old piece rest
    ∙ ap (λ (left : List ℕ). old ++ joined (sheet_pieces election is_later (map (row_at election kept) left))) (sym from_here)
    ∙ so_far
