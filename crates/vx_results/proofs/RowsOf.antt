-- What the rows of a report are.
use Rattle.std.proofs.Common.{◌≤◌, Bool, true, false, List, [], ◌∷◌, length, map, ap, arith}
use Rattle.std.specs.Ordering.{match_ordering}
use Rattle.std.specs.declared.cmp.Ordering.{Ordering}
use Rattle.std.specs.declared.cmp.Ordering.TheVariants.{Less, Equal, Greater}
use Rattle.std.specs.List.{AllByRecursion}
use Rattle.vx_election_model.specs.declared.contest.Contest.{Contest}
use Rattle.vx_election_model.specs.declared.election.Election.{Election}
use Rattle.vx_election_model.specs.Valid.{HasChoices}
use Rattle.vx_events.specs.declared.event.Event.{Event}
use Rattle.vx_center.specs.declared.rows.ExportSheet.{ExportSheet}
use Rattle.vx_center.specs.Exports.{key_order, row_of}
use Rattle.vx_center.specs.Histories.{IsHistory}
use Rattle.vx_center.specs.Sheets.{Added, sheets_in}
use Rattle.vx_cvr.specs.Rows.{placed, in_order, rows_of}
use Rattle.vx_results.proofs.Each.{each-weaker, each-map}
use Rattle.vx_results.proofs.Kept.{IsAdded, sheets-are}

-- what holds of each row holds of each in order
module _ (P : ExportSheet → Type 0) where
  pub each-placed : (row : ExportSheet) (rows : List ExportSheet) → P row → AllByRecursion P rows → AllByRecursion P (placed row rows)
  each-placed row [] is each = (is, tt)
  each-placed row (other ∷ others) is each = by (key_order other.key row.key) (each-placed row others is each.1)
    where
      by : (o : Ordering) → AllByRecursion P (placed row others)
          → AllByRecursion P (match_ordering o (other ∷ placed row others) (row ∷ other ∷ others) (row ∷ other ∷ others))
      by Less rest = (each.0, rest)
      by Equal rest = (is, each)
      by Greater rest = (is, each)

  pub each-in_order : (rows : List ExportSheet) → AllByRecursion P rows → AllByRecursion P (in_order rows)
  each-in_order [] each = tt
  each-in_order (row ∷ rows) each = each-placed row (in_order rows) each.0 (each-in_order rows each.1)

  pub each-row : (election : Election) (kept : List Event) → IsHistory election kept
      → ((added : Added) → IsAdded election added → P (row_of election kept added))
      → AllByRecursion P (rows_of election kept)
  each-row election kept history of_added =
      each-in_order (map (row_of election kept) (sheets_in kept))
      (each-map P (row_of election kept) (sheets_in kept)
      (each-weaker (IsAdded election) (λ (added : Added). P (row_of election kept added)) (sheets_in kept) of_added (sheets-are election kept history)))

-- a valid contest has at most 100 choices
pub few-choices : (is_yes_no : Bool) (contest : Contest) → HasChoices is_yes_no contest → length contest.choices ≤ 100
few-choices true contest has = let two = ap length has.answers.2 in omega (arith, two)
few-choices false contest has = has.few
