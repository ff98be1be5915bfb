-- The records of a report by the places of its sheets.
use Rattle.std.proofs.Common.{◌≡◌, ℕ, ◌+◌, ◌<◌, List, [], ◌∷◌, ◌++◌, length, map, take, get_or, ap, subst, sym, ◌∙◌}
use Rattle.std.specs.Prelude.{Some, slice_get, option_map}
use Rattle.std.proofs.lemmas.List.{take_more}
use Rattle.std.proofs.lemmas.Option.{get_or_from_slice_get, slice_get-get_or, slice_get-map, slice_get_within}
use Rattle.vx_election_model.specs.declared.election.Election.{Election}
use Rattle.vx_events.specs.declared.event.Event.{Event}
use Rattle.vx_center.specs.declared.rows.ExportSheet.{ExportSheet}
use Rattle.vx_center.specs.Exports.{row_at}
use Rattle.vx_cvr.specs.Pieces.{AreReportPlaces}
use Rattle.vx_cvr.specs.Rows.{rows_of}
use Rattle.vx_results.specs.Report.{record_of, report_of_events}
use Rattle.vx_results.proofs.Each.{length-mapped}

-- what is made of the element at a place
pub made_there : {X Y : Type 0} (f : X → Y) (xs : List X) (at : ℕ) (x : X) → slice_get xs at ≡ Some x → slice_get (map f xs) at ≡ Some (f x)
made_there f xs at x there = slice_get-map f xs at ∙ ap (option_map f) there

-- one element more is taken
pub one_more : {X : Type 0} (xs : List X) (at : ℕ) (x : X) → slice_get xs at ≡ Some x → take (at + 1) xs ≡ take at xs ++ x ∷ []
one_more xs at x there =
    take_more xs at x (slice_get_within xs at x there)
    ∙ ap (λ one. take at xs ++ one ∷ []) (get_or_from_slice_get xs at x x there)

module _ (election : Election) (kept : List Event) (places : List ℕ) (are : AreReportPlaces election kept places) where
  pub row_there : (at : ℕ) → at < length places → slice_get (rows_of election kept) at ≡ Some (row_at election kept (get_or places at 0))
  row_there at less =
      subst (λ (rows : List ExportSheet). slice_get rows at ≡ Some (row_at election kept (get_or places at 0))) are.rows
      (made_there (row_at election kept) places at (get_or places at 0) (slice_get-get_or places at 0 less))

  pub how_many : length (report_of_events election kept).records ≡ length places
  how_many =
      length-mapped (record_of election) (rows_of election kept)
      ∙ ap length (sym are.rows)
      ∙ length-mapped (row_at election kept) places
