-- The row and the key of the sheet at a place.
use Rattle.std.proofs.Common.{◌≡◌, ℕ, List, sym, ap, ◌∙◌}
use Rattle.std.specs.Cmp.{IsTotalOrder}
use Rattle.std.proofs.lemmas.Option.{get_or_from_slice_get}
use Rattle.std.proofs.lemmas.Cmp.{then_total, on_total, nat_cmp_total, nat_list_cmp_total}
use Rattle.vx_election_model.specs.declared.election.Election.{Election}
use Rattle.vx_rules.specs.declared.marks.SheetMarks.{SheetMarks}
use Rattle.vx_events.specs.declared.event.Event.{Event}
use Rattle.vx_events.specs.declared.key.Key.{Key}
use Rattle.vx_center.specs.Sheets.{Added, sheets_in}
use Rattle.vx_center.specs.Exports.{row_by, row_of, key_order}
use Rattle.vx_center.specs.Places.{no_sheet, sheet_at}
use Rattle.vx_center.specs.States.{Entry, IsAt}

-- the row of the sheet that is found at a place
pub row_found : (election : Election) (kept : List Event) (place : ℕ) (key : Key) (sheet : SheetMarks) (entry : Entry)
    → IsAt election kept place key sheet entry → row_by election key sheet entry.decided ≡ row_of election kept (sheet_at kept place)
row_found election kept place key sheet entry at =
    let same : sheet_at kept place ≡ at.added = get_or_from_slice_get (sheets_in kept) place at.added no_sheet at.there in
    (λ i. row_by election (sym at.keyed i) (sym at.read i) (sym at.known i).decided) ∙ ap (row_of election kept) (sym same)

-- its key
pub key_found : (election : Election) (kept : List Event) (place : ℕ) (key : Key) (sheet : SheetMarks) (entry : Entry)
    → IsAt election kept place key sheet entry → key ≡ (sheet_at kept place).key
key_found election kept place key sheet entry at =
    let same : sheet_at kept place ≡ at.added = get_or_from_slice_get (sheets_in kept) place at.added no_sheet at.there in
    sym at.keyed ∙ ap (λ (added : Added). added.key) (sym same)

pub key_order-total : IsTotalOrder key_order
key_order-total = then_total (on_total (λ (key : Key). key.batch) nat_list_cmp_total) (on_total (λ (key : Key). key.number) nat_cmp_total)
