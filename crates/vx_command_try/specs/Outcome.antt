-- What `try` does: it takes its election, and then walks over its scans: it reads the two images of each sheet, and writes its
-- line. It ends at the first images that are no sheet.
use Rattle.std.specs.Prelude.{ℕ, ◌+◌, ◌-◌, ◌*◌, ◌∷◌, [], List, Result, Ok, Err}
use Rattle.vx_plane.specs.Plane.{Page}
use Rattle.vx_election_model.specs.declared.election.Election.{Election}
use Rattle.vx_io.specs.Outside.{Files}
use Rattle.vx_rules.specs.declared.marks.SheetMarks.{SheetMarks}
use Rattle.vx_scan_model.specs.Reading.{reading_of}
use Rattle.vx_sheet.specs.declared.came.Came.{Came}
use Rattle.vx_sheet.specs.declared.came.Came.TheVariants.{Single}
use Rattle.vx_sheet.specs.Came.{sheet_read}
use Rattle.vx_command.specs.declared.halt.Halt.TheVariants.{NoSheet}
use Rattle.vx_command.specs.Acts.{Write, Outcome, after, halted, writing}
use Rattle.vx_command.specs.Elections.{once_election, once_planned}
use Rattle.vx_walk.specs.Walk.{SheetStep, scans_outcome}
use Rattle.vx_command_try.specs.Lines.{cause_of, no_sheet_line, sheet_line, tried_line}

-- the line of a sheet says why its images are none, and the command ends so
abbrev pub no_sheet : ℕ → Came → Outcome
no_sheet number came = after (Write (no_sheet_line number came) ∷ []) (halted (NoSheet number (cause_of came)))

-- a sheet with a number, by what was read of its images: its line, and then what comes next; or why they are none
abbrev pub sheet_outcome : ℕ → Result SheetMarks Came → Outcome → Outcome
sheet_outcome number (Ok sheet) next = after (Write (sheet_line number sheet) ∷ []) next
sheet_outcome number (Err came) next = no_sheet number came

-- the same by what its two images are read as, which are the images 2n - 1 and 2n
abbrev pub sheet_step : Election → SheetStep
sheet_step election number first second next =
    sheet_outcome number (sheet_read election (2 * number - 1) (reading_of election first) (reading_of election second)) next

-- the end: how many sheets there are; or the last image has no second
abbrev pub end_outcome : ℕ → List Page → Outcome
end_outcome sheets [] = writing (tried_line sheets)
end_outcome sheets (single ∷ images) = no_sheet (sheets + 1) Single

-- the scans that the words from 2 on name, for an election
abbrev pub tried_outcome : Election → Files → List (List ℕ) → Outcome
tried_outcome election files scans = scans_outcome (λ scan. sheet_step election) end_outcome files 2 0 [] scans

-- `try` of scans for the election under a name, the first of which is word 2
abbrev pub try_outcome : List ℕ → List (List ℕ) → Files → Outcome
try_outcome election scans files =
    once_election (files election) (λ given. once_planned given (tried_outcome given files scans))
