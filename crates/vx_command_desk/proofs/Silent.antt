-- A sheet of which nothing waits has no text, whatever its images.
use Rattle.std.proofs.Common.{◌≡◌, ℕ, false, List, [], Option, None, Some, refl}
use Rattle.vx_plane.specs.Plane.{Page}
use Rattle.vx_election_model.specs.declared.election.Election.{Election}
use Rattle.vx_events.specs.declared.event.Event.{Event}
use Rattle.vx_rules.specs.declared.marks.SheetMarks.{SheetMarks}
use Rattle.vx_center.specs.Sheets.{key_of, sheet_in}
use Rattle.vx_desk.specs.Lines.{line_of, sheet_text}
use Rattle.vx_desk.specs.Waits.{any_waits, sheet_waits}

-- by whether the sheet was added
no-line : (election : Election) (events : List Event) (batch scan : List ℕ) (number : ℕ) (first second : Page) (found : Option SheetMarks)
    → any_waits election events (key_of batch number) found ≡ false → line_of election events (key_of batch number) scan first second found ≡ []
no-line election events batch scan number first second None silent = refl
no-line election events batch scan number first second (Some sheet) silent = rw silent refl

pub silent : (election : Election) (events : List Event) (batch scan : List ℕ) (number : ℕ) (first second : Page)
    → sheet_waits election events batch number ≡ false → sheet_text election events batch scan number first second ≡ []
unfolding sheet_waits sheet_text
silent election events batch scan number first second nothing =
    no-line election events batch scan number first second (sheet_in events (key_of batch number)) nothing
