-- Pieces that are written one after another.
use Rattle.std.proofs.Common.{◌≡◌, ℕ, ◌+◌, ◌<◌, Bool, true, false, List, [], ◌∷◌, ◌++◌, length, drop, map, get_or, Ok, Err, sym, ap, subst, ◌∙◌}
use Rattle.std.proofs.lemmas.List.{drop_more, map-append}
use Rattle.vx_election_model.specs.declared.election.Election.{Election}
use Rattle.vx_events.specs.declared.event.Event.{Event}
use Rattle.vx_center.specs.Exports.{row_at}
use Rattle.vx_cvr.specs.Pieces.{AreReportPlaces, front_piece, last_piece, report_pieces, sheet_piece, sheet_pieces}
use Rattle.vx_center.specs.declared.rows.ExportSheet.{ExportSheet}
use Rattle.vx_command.specs.declared.halt.Halt.{Halt}
use Rattle.vx_command.specs.Acts.{Act, Answer, Write, Outcome, work, writing}
use Rattle.vx_command.specs.Done.{Taken, IsDone, IsWritten, WritesTo}
use Rattle.vx_command.specs.Laws.{ActLaws}
use Rattle.vx_command_export.specs.Outcome.{writing_each}

module _ (laws : ActLaws) where
  -- some pieces, and then others
  each_then : (xs ys : List (List ℕ)) (a b : Taken) → IsWritten (writing_each xs) a b (Ok tt) → WritesTo (writing_each (xs ++ ys)) (writing_each ys) a b
  each_then xs ys a b written held taken_then held_then answer done =
      subst (λ (acts : List Act). IsDone (work acts) a taken_then held held_then answer) (sym (map-append Write xs ys))
      (laws.done (map Write xs) (writing_each ys) a b held held (written held) taken_then held_then answer done)

  each_broken : (xs ys : List (List ℕ)) (a b : Taken) (cause : Halt) → IsWritten (writing_each xs) a b (Err cause) → IsWritten (writing_each (xs ++ ys)) a b (Err cause)
  each_broken xs ys a b cause written held =
      subst (λ (acts : List Act). IsDone (work acts) a b held held (Err cause)) (sym (map-append Write xs ys))
      (laws.broken (map Write xs) (writing_each ys) a b held held cause (written held))

  -- a report: what stands before its sheets, these, and the rest
  module _ (election : Election) (kept : List Event) (moment device : List ℕ) (places : List ℕ) (are : AreReportPlaces election kept places) where
    abbrev sheets : List (List ℕ)
    sheets = sheet_pieces election false (map (row_at election kept) places)

    abbrev last : List ℕ
    last = last_piece election moment device

    whole : report_pieces election kept moment device ≡ front_piece ∷ (sheets ++ last ∷ [])
    unfolding report_pieces
    whole = ap (λ (rows : List ExportSheet). front_piece ∷ (sheet_pieces election false rows ++ last ∷ [])) (sym are.rows)

    as_whole : (a b : Taken) (answer : Answer) → IsWritten (writing_each (front_piece ∷ (sheets ++ last ∷ []))) a b answer
        → IsWritten (writing_each (report_pieces election kept moment device)) a b answer
    as_whole a b answer written = subst (λ (pieces : List (List ℕ)). IsWritten (writing_each pieces) a b answer) (sym whole) written

    pub front_broken : (a b : Taken) (cause : Halt) → IsWritten (writing front_piece) a b (Err cause) → IsWritten (writing_each (report_pieces election kept moment device)) a b (Err cause)
    front_broken a b cause first = as_whole a b (Err cause) (each_broken (front_piece ∷ []) (sheets ++ last ∷ []) a b cause first)

    pub sheets_broken : (a b c : Taken) (cause : Halt) → IsWritten (writing front_piece) a b (Ok tt) → IsWritten (writing_each sheets) b c (Err cause)
        → IsWritten (writing_each (report_pieces election kept moment device)) a c (Err cause)
    sheets_broken a b c cause first second =
        as_whole a c (Err cause)
        (λ held. each_then (front_piece ∷ []) (sheets ++ last ∷ []) a b first held c held (Err cause) (each_broken sheets (last ∷ []) b c cause second held))

    pub all_written : (a b c d : Taken) (answer : Answer) → IsWritten (writing front_piece) a b (Ok tt) → IsWritten (writing_each sheets) b c (Ok tt)
        → IsWritten (writing last) c d answer → IsWritten (writing_each (report_pieces election kept moment device)) a d answer
    all_written a b c d answer first second third =
        as_whole a d answer
        (λ held. each_then (front_piece ∷ []) (sheets ++ last ∷ []) a b first held d held answer (each_then sheets (last ∷ []) b c second held d held answer (third held)))

  -- the sheets, one after the other
  module _ (election : Election) (kept : List Event) (places : List ℕ) (i : ℕ) (is_later : Bool) where
    abbrev left : Bool → List ℕ → Outcome
    left later some = writing_each (sheet_pieces election later (map (row_at election kept) some))

    abbrev here : ℕ → List ℕ
    here place = sheet_piece election is_later (row_at election kept place)

    -- the sheets from one on are that sheet and those behind it
    from_here : (place : ℕ) → i < length places → place ≡ get_or places i 0 → left is_later (drop i places) ≡ left is_later (place ∷ drop (i + 1) places)
    from_here place inside is = ap (left is_later) (drop_more places i 0 inside ∙ ap (λ (p : ℕ). p ∷ drop (i + 1) places) (sym is))

    -- one sheet more is written
    pub sheet_written : (all : Outcome) (place : ℕ) (a b c : Taken) → i < length places → place ≡ get_or places i 0
        → WritesTo all (left is_later (drop i places)) a b → IsWritten (writing (here place)) b c (Ok tt) → WritesTo all (left true (drop (i + 1) places)) a c
    sheet_written all place a b c inside is before written held taken_then held_then answer done =
        let Done : Outcome → Type 0 = λ outcome. IsDone outcome b taken_then held held_then answer in
        before held taken_then held_then answer
        (subst Done (sym (from_here place inside is))
        (laws.done (Write (here place) ∷ []) (left true (drop (i + 1) places)) b c held held (written held) taken_then held_then answer done))

    -- a sheet isn't written whole
    pub sheet_broke_off : (all : Outcome) (place : ℕ) (a b c : Taken) (cause : Halt) → i < length places → place ≡ get_or places i 0
        → WritesTo all (left is_later (drop i places)) a b → IsWritten (writing (here place)) b c (Err cause) → IsWritten all a c (Err cause)
    sheet_broke_off all place a b c cause inside is before written held =
        let Done : Outcome → Type 0 = λ outcome. IsDone outcome b c held held (Err cause) in
        before held c held (Err cause)
        (subst Done (sym (from_here place inside is))
        (laws.broken (Write (here place) ∷ []) (left true (drop (i + 1) places)) b c held held cause (written held)))
