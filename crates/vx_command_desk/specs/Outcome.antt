-- What `desk` does: it takes its election, reads the journal, writes the head of the page and the first line of its data, and
-- then walks over its scans: it writes the text of each sheet, and at their end the last line of data and the tail of the page.
use Rattle.std.specs.Prelude.{ℕ, ◌++◌, ◌∷◌, [], List}
use Rattle.vx_plane.specs.Plane.{Page}
use Rattle.vx_election_model.specs.declared.election.Election.{Election}
use Rattle.vx_events.specs.declared.event.Event.{Event}
use Rattle.vx_io.specs.Outside.{Files}
use Rattle.vx_command.specs.Acts.{Write, Outcome, after, writing}
use Rattle.vx_command.specs.Elections.{once_election, once_planned}
use Rattle.vx_walk.specs.Walk.{SheetStep, scans_outcome}
use Rattle.vx_journal.specs.Steps.{once_read}
use Rattle.vx_desk.specs.Lines.{first_text, last_text, sheet_text}
use Rattle.vx_desk.specs.Page.{head, tail}

-- the page begins: its head and the first line of data
unfoldable pub opening_text : Election → List ℕ → List ℕ
opening_text election batch = head ++ first_text election batch

-- it ends, behind so many sheets: the last line of data and the tail
unfoldable pub closing_text : Election → List Event → List ℕ → ℕ → List ℕ
closing_text election events batch sheets = last_text election events batch sheets ++ tail

-- a sheet of the scan with a name, of a batch of kept events: its text is written
abbrev pub sheet_step : Election → List Event → List ℕ → List ℕ → SheetStep
sheet_step election events batch scan number first second next =
    after (Write (sheet_text election events batch scan number first second) ∷ []) next

-- the end, behind so many sheets: the closing text is written, and an image that is left over is passed over
abbrev pub end_outcome : Election → List Event → List ℕ → ℕ → List Page → Outcome
end_outcome election events batch sheets left = writing (closing_text election events batch sheets)

-- the page of a batch of kept events, with scans, the first of which is word 3
abbrev pub page_outcome : Election → List ℕ → List (List ℕ) → Files → List Event → Outcome
page_outcome election batch scans files events =
    after (Write (opening_text election batch) ∷ [])
    (scans_outcome (sheet_step election events batch) (end_outcome election events batch) files 3 0 [] scans)

-- `desk` of a batch with scans for the election under a name, with these files and records
abbrev pub desk_outcome : List ℕ → List ℕ → List (List ℕ) → Files → List (List ℕ) → Outcome
desk_outcome election batch scans files records =
    once_election (files election)
    (λ given. once_planned given
    (once_read given records (λ journal. page_outcome given batch scans files journal.center.events)))
