-- Sums over the rows of an exported report, in whatever order its sheets stand.
use Rattle.std.proofs.Common.{◌≡◌, ℕ, ◌+◌, Bool, List, [], ◌∷◌, ◌++◌, map, refl, sym, ap, ◌∙◌, arith}
use Rattle.std.specs.Prelude.{filter, sum_by}
use Rattle.std.specs.List.{flat_map}
use Rattle.std.specs.Ordering.{match_ordering}
use Rattle.std.specs.declared.cmp.Ordering.{Ordering}
use Rattle.std.specs.declared.cmp.Ordering.TheVariants.{Less, Equal, Greater}
use Rattle.std.proofs.lemmas.Grind.{flat_map-append}
use Rattle.std.proofs.lemmas.List.Elements.{filter-append}
use Rattle.std.proofs.lemmas.List.Sums.{sum_by-append}
use Rattle.vx_election_model.specs.declared.election.Election.{Election}
use Rattle.vx_events.specs.declared.event.Event.{Event}
use Rattle.vx_center.specs.declared.rows.ExportSheet.{ExportSheet}
use Rattle.vx_center.specs.declared.rows.Final.{Final}
use Rattle.vx_center.specs.Exports.{key_order, row_of}
use Rattle.vx_center.specs.Laws.{HistoriesAreShown}
use Rattle.vx_center.specs.Histories.{IsHistory}
use Rattle.vx_center.specs.Sheets.{Added, sheets_in}
use Rattle.vx_center.specs.Shown.{finals_with}
use Rattle.vx_center.specs.Waiting.{exports}
use Rattle.vx_cvr.specs.Rows.{placed, in_order}
use Rattle.vx_tally.specs.Totals.{Row, votes_of, is_for, is_for_in, total_of, total_in_of}
use Rattle.vx_report_read.specs.Exported.{exported_vote, exported_by, exported_rows, RowsAreTheExported}
use Rattle.vx_report_read.specs.Totals.{rows_on, kept_rows, TotalsAreTheExported}
use Rattle.vx_report_read.proofs.Whole.{flat_map-mapped}

votes-append : (test : Row → Bool) (xs ys : List Row) → votes_of test (xs ++ ys) ≡ votes_of test xs + votes_of test ys
votes-append test xs ys =
    ap (sum_by (λ (row : Row). row.votes)) (filter-append test xs ys) ∙ sum_by-append (λ (row : Row). row.votes) (filter test xs) (filter test ys)

flat_map-flat_map : {X Y Z : Type 0} (f : Y → List Z) (g : X → List Y) (xs : List X) → flat_map f (flat_map g xs) ≡ flat_map (λ (x : X). flat_map f (g x)) xs
flat_map-flat_map f g [] = refl
flat_map-flat_map f g (x ∷ xs) = flat_map-append f (g x) (flat_map g xs) ∙ ap (λ zs. flat_map f (g x) ++ zs) (flat_map-flat_map f g xs)

-- a sum over sheets is that over the same sheets in order
module _ (test : Row → Bool) (give : ExportSheet → List Row) where
  abbrev sum : List ExportSheet → ℕ
  sum rows = votes_of test (flat_map give rows)

  sum-next : (row : ExportSheet) (rows : List ExportSheet) → sum (row ∷ rows) ≡ votes_of test (give row) + sum rows
  sum-next row rows = votes-append test (give row) (flat_map give rows)

  sum-placed : (row : ExportSheet) (rows : List ExportSheet) → sum (placed row rows) ≡ votes_of test (give row) + sum rows
  sum-placed row [] = sum-next row []
  sum-placed row (other ∷ others) = by (key_order other.key row.key) (sum-placed row others)
    where
      turn : (a b c d e : ℕ) → a ≡ b + c → c ≡ d + e → a ≡ d + (b + e)
      turn a b c d e first second = omega (arith, first, second)

      by : (o : Ordering) → sum (placed row others) ≡ votes_of test (give row) + sum others
          → sum (match_ordering o (other ∷ placed row others) (row ∷ other ∷ others) (row ∷ other ∷ others)) ≡ votes_of test (give row) + sum (other ∷ others)
      by Less rest =
          turn (sum (other ∷ placed row others)) (votes_of test (give other)) (sum (placed row others)) (votes_of test (give row)) (sum others)
          (sum-next other (placed row others)) rest
          ∙ ap (λ (n : ℕ). votes_of test (give row) + n) (sym (sum-next other others))
      by Equal rest = sum-next row (other ∷ others)
      by Greater rest = sum-next row (other ∷ others)

  sum-in_order : (rows : List ExportSheet) → sum (in_order rows) ≡ sum rows
  sum-in_order [] = refl
  sum-in_order (row ∷ rows) =
      sum-placed row (in_order rows) ∙ ap (λ (n : ℕ). votes_of test (give row) + n) (sum-in_order rows) ∙ sym (sum-next row rows)

-- the rows of an added sheet are those of its exported contests
sheet-rows : (election : Election) (kept : List Event) (added : Added) → HistoriesAreShown → IsHistory election kept
    → exported_by election (row_of election kept added) ≡ rows_on election kept added
sheet-rows election kept added law history =
    ap (flat_map h) ((law election kept history).stand added)
    ∙ flat_map-flat_map h (finals_with election kept added) (filter (exports election kept added) added.sheet.contests)
  where
    h : Final → List Row
    h final = map (exported_vote election (row_of election kept added) final) final.selected

kept-sum : (test : Row → Bool) (election : Election) (kept : List Event) → HistoriesAreShown → IsHistory election kept
    → votes_of test (exported_rows election kept) ≡ votes_of test (kept_rows election kept)
kept-sum test election kept law history =
    sum-in_order test (exported_by election) (map (row_of election kept) (sheets_in kept))
    ∙ ap (votes_of test)
    (flat_map-mapped (exported_by election) (row_of election kept) (rows_on election kept) (sheets_in kept)
    (λ added. sheet-rows election kept added law history))

pub totals-read : HistoriesAreShown → RowsAreTheExported → TotalsAreTheExported
unfolding total_of total_in_of
totals-read shown law election kept moment id report valid history given =
    let rows = law election kept moment id report valid history given in
    record {
      all = λ contest selection. ap (votes_of (is_for contest selection)) rows ∙ kept-sum (is_for contest selection) election kept shown history;
      each = λ unit contest selection. ap (votes_of (is_for_in unit contest selection)) rows
          ∙ kept-sum (is_for_in unit contest selection) election kept shown history;
    }
