-- The sheets that the events of a history add fit the election.
use Rattle.std.proofs.Common.{◌≡◌, ℕ, ◌+◌, true, List, [], ◌∷◌}
use Rattle.std.specs.List.{AllByRecursion}
use Rattle.vx_base.proofs.Booleans.{and-left, and-right}
use Rattle.vx_election_model.specs.declared.election.Election.{Election}
use Rattle.vx_events.specs.declared.event.Event.{Event}
use Rattle.vx_events.specs.declared.event.Event.TheVariants.{Add, Claim, Release, Decide}
use Rattle.vx_events.specs.Fits.{Fits, is_key, is_sheet}
use Rattle.vx_center.specs.Histories.{IsHistory}
use Rattle.vx_center.specs.Sheets.{Added, added_by, added_from, sheets_in}
use Rattle.vx_report_read.proofs.Each.{each-at, each-append}

-- a sheet that was added fits
abbrev pub IsAdded : Election → Added → Type 0
IsAdded election added = (is_key added.key ≡ true) × (is_sheet election added.sheet ≡ true)

added-are : (election : Election) (place : ℕ) (events : List Event) → AllByRecursion (Fits election) events
    → AllByRecursion (IsAdded election) (added_from place events)
added-are election place [] fit = tt
added-are election place (event ∷ events) fit = each-append (IsAdded election) (added_by place event) (added_from (place + 1) events) (by event fit.0)
    (added-are election (place + 1) events fit.1)
  where
    by : (event : Event) → Fits election event → AllByRecursion (IsAdded election) (added_by place event)
    by (Add key sheet) fits = ((and-left (is_key key) (is_sheet election sheet) fits, and-right (is_key key) (is_sheet election sheet) fits), tt)
    by (Claim station key) fits = tt
    by (Release station key) fits = tt
    by (Decide station key contest decision) fits = tt

pub sheets-are : (election : Election) (kept : List Event) → IsHistory election kept → AllByRecursion (IsAdded election) (sheets_in kept)
sheets-are election kept history = added-are election 0 kept (each-at (Fits election) kept history.fits)
