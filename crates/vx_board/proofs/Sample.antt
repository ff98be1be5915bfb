-- The ballots are those of the sample.
use Rattle.std.proofs.Common.{◌≡◌, ℕ, ◌+◌, ◌<◌, true, List, [], ◌∷◌, map, get_or, refl, sym, ap, ap₂, subst, ◌∙◌}
use Rattle.std.specs.Prelude.{filter, slice_get, Some, IsSortedByKey}
use Rattle.std.proofs.Math.ListN.{get_or-map}
use Rattle.std.proofs.lemmas.List.{length-map}
use Rattle.std.proofs.lemmas.Slice.Eq.{bytes_eq-Decides}
use Rattle.std.specs.Ordering.{is_lt}
use Rattle.vx_base.proofs.Booleans.{and-both}
use Rattle.vx_base.proofs.Numbers.{equal-yes}
use Rattle.vx_base.proofs.Lists.{map-map}
use Rattle.vx_election_model.specs.declared.election.Election.{Election}
use Rattle.vx_events.specs.declared.event.Event.{Event}
use Rattle.vx_events.specs.declared.key.Key.{Key}
use Rattle.vx_center.specs.declared.rows.ExportSheet.{ExportSheet}
use Rattle.vx_center.specs.Exports.{key_order, row_of}
use Rattle.vx_center.specs.Histories.{IsHistory}
use Rattle.vx_center.specs.Laws.{SameKeysAreEqual, SheetsHaveOwnPlaces}
use Rattle.vx_center.specs.Sheets.{Added, has_key, same_key, sheets_in}
use Rattle.vx_cvr.specs.Laws.{EachRowIsOfASheet, OneRowOfAKey, RowsAreOfTheSheets}
use Rattle.vx_cvr.specs.Rows.{rows_of}
use Rattle.vx_audit.specs.Sample.{sample_of}
use Rattle.vx_results.specs.Report.{record_of}
use Rattle.vx_board.specs.Ballots.{Ballot, ballot_of, ballots_of}
use Rattle.vx_board.specs.Laws.{AreEachOnce, BallotsAreTheSample, ballot_name, record_name}
use Rattle.vx_board.proofs.Once.{alone, made_at, one_place}

same_self : (key : Key) → same_key key key ≡ true
same_self key = and-both _ _ ((bytes_eq-Decides key.batch key.batch).1 refl) (equal-yes key.number key.number refl)

-- a row by its ballot alone
row_with : Ballot → ExportSheet
row_with ballot = record { key = ballot.key; card = ballot.card; front = 0; finals = [] }

-- ballots are in order where their rows are
sorted : (rows : List ExportSheet) → IsSortedByKey (λ (row : ExportSheet). row.key) key_order rows
    → IsSortedByKey (λ (ballot : Ballot). ballot.key) key_order (map ballot_of rows)
unfolding row_with
sorted rows are k d low high =
    let at : (n : ℕ) → (get_or (map ballot_of rows) n d).key ≡ (get_or rows n (row_with d)).key =
    λ n. ap (λ (ballot : Ballot). ballot.key) (get_or-map ballot_of rows n (row_with d)) in
    ap₂ (λ (one other : Key). is_lt (key_order one other)) (at (k + 1)) (at k)
    ∙ are k (row_with d) low (subst (λ (n : ℕ). k + 1 < n) (length-map rows ballot_of) high)

module _ (rows_are : RowsAreOfTheSheets) (of_sheet : EachRowIsOfASheet) (one_row : OneRowOfAKey) (own : SheetsHaveOwnPlaces) (equal : SameKeysAreEqual)
    (election : Election) (kept : List Event) (history : IsHistory election kept) where
  -- no two rows have one key
  rows_once : (place further : ℕ) (one other : ExportSheet) → slice_get (rows_of election kept) place ≡ Some one
      → slice_get (rows_of election kept) further ≡ Some other → one.key ≡ other.key → place ≡ further
  rows_once place further one other there beyond same =
      let sheet = of_sheet election kept place one there in
      let key : one.key ≡ sheet.added.key = ap (λ (row : ExportSheet). row.key) sheet.is_row in
      let itself : same_key one.key one.key ≡ true = same_self one.key in
      let left : filter (has_key one.key) (sheets_in kept) ≡ sheet.added ∷ [] =
      alone (has_key one.key) (sheets_in kept) sheet.place sheet.added sheet.is_added (subst (λ (k : Key). same_key one.key k ≡ true) key itself)
      (λ (n : ℕ) (added : Added) (at : slice_get (sheets_in kept) n ≡ Some added) (is : has_key one.key added ≡ true).
      own election kept n sheet.place added sheet.added history at sheet.is_added (sym (equal one.key added.key is) ∙ key)) in
      one_place (λ (row : ExportSheet). same_key one.key row.key) (rows_of election kept) (row_of election kept sheet.added)
      (one_row election kept one.key sheet.added left) place further one other there beyond itself
      (subst (λ (k : Key). same_key one.key k ≡ true) same itself)

  once : AreEachOnce (ballots_of election kept)
  once place further one other there beyond same =
      let first = made_at ballot_of (rows_of election kept) place one there in
      let second = made_at ballot_of (rows_of election kept) further other beyond in
      rows_once place further first.of second.of first.there second.there
      (ap (λ (ballot : Ballot). ballot.key) first.is ∙ same ∙ sym (ap (λ (ballot : Ballot). ballot.key) second.is))

pub the_sample : RowsAreOfTheSheets → EachRowIsOfASheet → OneRowOfAKey → SheetsHaveOwnPlaces → SameKeysAreEqual → BallotsAreTheSample
the_sample rows_are of_sheet one_row own equal election kept seed size history = record {
  places =
      ap (sample_of seed size) (length-map (rows_of election kept) ballot_of ∙ sym (length-map (rows_of election kept) (record_of election)));
  names =
      map-map record_name (record_of election) (rows_of election kept) ∙ sym (map-map ballot_name ballot_of (rows_of election kept));
  sorted = sorted (rows_of election kept) (rows_are election kept).sorted;
  once = once rows_are of_sheet one_row own equal election kept history;
}
