-- What is counted of sheets for the results, and their text.
use Rattle.std.proofs.Common.{◌≡◌, ◌+◌, List, [], ◌∷◌, ◌++◌, length, map, ap, subst, sym, refl, ◌∙◌, length-append, append-nil}
use Rattle.std.specs.List.{flat_map}
use Rattle.std.proofs.lemmas.List.Concat.{flat_map-append}
use Rattle.std.proofs.lemmas.List.Sorted.{IsPermutation-map}
use Rattle.vx_base.proofs.Lists.{map-push}
use Rattle.vx_election_model.specs.declared.election.Election.{Election}
use Rattle.vx_events.specs.declared.event.Event.{Event}
use Rattle.vx_center.specs.Exports.{row_of}
use Rattle.vx_center.specs.Sheets.{Added, sheets_in}
use Rattle.vx_cvr.specs.Laws.{RowsAreOfTheSheets}
use Rattle.vx_cvr.specs.Rows.{rows_of}
use Rattle.vx_tally.specs.declared.report.CvrRecord.{CvrRecord}
use Rattle.vx_tally.specs.Laws.{SumsAreOfAnyOrder}
use Rattle.vx_tally.specs.Running.{SumsUp, summed_in}
use Rattle.vx_tally.specs.Totals.{summed_of}
use Rattle.vx_audit.specs.Totals.{sums_text, totals_text}
use Rattle.vx_results.specs.declared.counting.Counted.{Counted}
use Rattle.vx_results.specs.Counted.{left_on}
use Rattle.vx_results.specs.Figures.{sheet_record}
use Rattle.vx_results.specs.Report.{contest_of, record_of, units_of}
use Rattle.vx_results.specs.Results.{results_text, waiting_line}
use Rattle.vx_results.specs.Telling.{AreCounted, HasSheet}
use Rattle.vx_results.specs.Waiting.{waiting_on}

module _ (election : Election) (kept : List Event) where
  -- one sheet more
  module _ (sheets : List Added) (added : Added) where
    waiting-more : length (flat_map (waiting_on election kept) (sheets ++ added ∷ []))
        ≡ length (flat_map (waiting_on election kept) sheets) + length (waiting_on election kept added)
    waiting-more =
        ap length (flat_map-append (waiting_on election kept) sheets (added ∷ []))
        ∙ length-append (flat_map (waiting_on election kept) sheets) (waiting_on election kept added ++ [])
        ∙ ap (λ n. length (flat_map (waiting_on election kept) sheets) + n) (ap length (append-nil (waiting_on election kept added)))

    pub sheet_more : (old new : Counted) → left_on added.sheet (row_of election kept added) ≡ length (waiting_on election kept added)
        → AreCounted election kept sheets old → HasSheet election added.sheet (row_of election kept added) old new
        → AreCounted election kept (sheets ++ added ∷ []) new
    sheet_more old new left are has = record {
      totals =
          subst (λ (records : List CvrRecord). SumsUp records new.totals) (sym (map-push (sheet_record election kept) sheets added))
          (has.totals (map (sheet_record election kept) sheets) are.totals);
      waiting = has.waiting ∙ (λ i. are.waiting i + left i) ∙ sym waiting-more;
    }

  -- the records of the sheets, in the order of adding and in that of the rows
  same-records : (sheets : List Added) → map (record_of election) (map (row_of election kept) sheets) ≡ map (sheet_record election kept) sheets
  same-records [] = refl
  same-records (added ∷ sheets) = ap (λ (more : List CvrRecord). sheet_record election kept added ∷ more) (same-records sheets)

  same-sums : RowsAreOfTheSheets → SumsAreOfAnyOrder
      → summed_of (map (sheet_record election kept) (sheets_in kept)) ≡ summed_of (map (record_of election) (rows_of election kept))
  same-sums rows order =
      ap summed_of (sym (same-records (sheets_in kept)))
      ∙ order (map (record_of election) (map (row_of election kept) (sheets_in kept))) (map (record_of election) (rows_of election kept))
      (IsPermutation-map (record_of election) (map (row_of election kept) (sheets_in kept)) (rows_of election kept) (rows election kept).all)

  -- the text of what was counted of all sheets
  pub results_told : RowsAreOfTheSheets → SumsAreOfAnyOrder → (counted : Counted) → AreCounted election kept (sheets_in kept) counted
      → sums_text (summed_in counted.totals) (map contest_of election.contests) (units_of election) ++ waiting_line counted.waiting
      ≡ results_text election kept
  unfolding results_text totals_text
  results_told rows order counted are =
      let sums = are.totals ∙ same-sums rows order in
      (λ i. sums_text (sums i) (map contest_of election.contests) (units_of election) ++ waiting_line (are.waiting i))
