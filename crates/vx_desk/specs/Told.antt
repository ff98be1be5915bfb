-- Where the contests of a batch that wait are told: on the line of their sheet, or by its number among the missing, and once.
use Rattle.std.specs.Prelude.{◌≡◌, ◌≤◌, ℕ, ◌==◌, true, false, nat_lt, if◌then◌else◌, List, [], count_by, slice_get, Some}
use Rattle.vx_plane.specs.Plane.{Page}
use Rattle.vx_election_model.specs.declared.election.Election.{Election}
use Rattle.vx_events.specs.declared.event.Event.{Event}
use Rattle.vx_events.specs.Ascending.{is_ascending}
use Rattle.vx_events.specs.Fits.{contests_of}
use Rattle.vx_center.specs.Histories.{IsHistory}
use Rattle.vx_center.specs.Sheets.{Added, sheets_in}
use Rattle.vx_markup.specs.Escaped.{data_line}
use Rattle.vx_desk.specs.Lines.{missing_of, sheet_data, sheet_text}
use Rattle.vx_desk.specs.Waits.{sheet_waits, waiting_of, waits_in}

-- how often a number stands in a list
abbrev pub times : ℕ → List ℕ → ℕ
times number numbers = count_by (λ other. other == number) numbers

-- A sheet of a batch with a contest that waits, on a page of the first so many sheets: it has a number from 1 on, and so a line
-- where its two images are there, which has its contests that wait or says that the images differ; else its number stands once
-- among the missing, and there no number of a sheet with images stands. On its line no contest stands twice.
pub record IsTold (election : Election) (kept : List Event) (batch : List ℕ) (sheets : ℕ) (added : Added) : Type 0 where
  pub from_one : 1 ≤ added.key.number
  pub line :
      (scan : List ℕ) (first second : Page)
      → sheet_text election kept batch scan added.key.number first second
      ≡ data_line (sheet_data election kept added.key scan added.sheet first second)
  pub missing :
      times added.key.number (missing_of election kept batch sheets)
      ≡ (if nat_lt sheets added.key.number then 1 else 0)
  pub ascend : is_ascending (contests_of (waiting_of election kept added)) ≡ true

-- a number of which no sheet waits has no line, and isn't missing
pub record IsPassed (election : Election) (kept : List Event) (batch : List ℕ) (sheets number : ℕ) : Type 0 where
  pub line : (scan : List ℕ) (first second : Page) → sheet_text election kept batch scan number first second ≡ []
  pub missing : times number (missing_of election kept batch sheets) ≡ 0

-- so each contest that waits is told once, and no other
pub record WaitingIsToldOnce : Type 0 where
  pub told :
      (election : Election) (kept : List Event) (batch : List ℕ) (sheets place : ℕ) (added : Added)
      → IsHistory election kept → slice_get (sheets_in kept) place ≡ Some added
      → waits_in election kept batch added ≡ true → IsTold election kept batch sheets added
  pub passed :
      (election : Election) (kept : List Event) (batch : List ℕ) (sheets number : ℕ) → IsHistory election kept
      → sheet_waits election kept batch number ≡ false → IsPassed election kept batch sheets number
