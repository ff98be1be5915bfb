-- What `try` accepts `count` adds, sheet for sheet.
use Rattle.std.specs.Prelude.{◌≡◌, ℕ, ◌+◌, List, [], ◌∷◌, ◌++◌, length, Ok}
use Rattle.std.specs.List.{flat_map}
use Rattle.vx_election_model.specs.declared.election.Election.{Election}
use Rattle.vx_events.specs.declared.event.Event.{Event}
use Rattle.vx_io.specs.Outside.{Files}
use Rattle.vx_rules.specs.declared.marks.SheetMarks.{SheetMarks}
use Rattle.vx_command.specs.Acts.{Outcome, records_of}
use Rattle.vx_command.specs.Elections.{election_in}
use Rattle.vx_command.specs.Images.{images_in}
use Rattle.vx_command.specs.Texts.{texts_of}
use Rattle.vx_journal.specs.Replay.{replay_of}
use Rattle.vx_command_count.specs.Added.{AreSheets, MayBeAdded, add_records}
use Rattle.vx_command_count.specs.Margin.{header_if_none}
use Rattle.vx_command_count.specs.Outcome.{count_outcome}
use Rattle.vx_command_try.specs.Lines.{sheet_line, tried_line}
use Rattle.vx_command_try.specs.Outcome.{try_outcome}

-- the lines of sheets, the first of which has a number
abbrev pub sheet_lines : ℕ → List SheetMarks → List ℕ
sheet_lines number [] = []
sheet_lines number (sheet ∷ sheets) = sheet_line number sheet ++ sheet_lines (number + 1) sheets

-- a count over these records ends well, and appends the record of each sheet in order, with its marks, and nothing else but
-- the header where no record was there
pub record AddsSheets (election : Election) (batch : List ℕ) (records : List (List ℕ)) (sheets : List SheetMarks) (outcome : Outcome)
    : Type 0 where
  pub appended : flat_map records_of outcome.acts ≡ header_if_none election records ++ add_records batch 0 sheets
  pub ends : outcome.ends ≡ Ok tt

-- What `try` of scans accepted: sheets, which are all of their images, two by two. Its text has their lines and their
-- number. `count` of the same scans adds exactly these, as any batch to any journal of the election, where they may be added.
pub record Accepted (name : List ℕ) (scans : List (List ℕ)) (files : Files) : Type 0 where
  pub election : Election
  pub taken : election_in (files name) ≡ Ok election
  pub sheets : List SheetMarks
  pub are : AreSheets election (images_in files 2 scans) sheets
  pub told : texts_of (try_outcome name scans files) ≡ sheet_lines 1 sheets ++ tried_line (length sheets)
  pub added : (batch : List ℕ) (records : List (List ℕ)) (events : List Event)
      → replay_of election records ≡ Ok events → MayBeAdded events batch sheets
      → AddsSheets election batch records sheets (count_outcome name batch scans files records)

-- so it is wherever `try` does its work
abbrev pub TriedSheetsAreAdded : Type 0
TriedSheetsAreAdded =
    (name : List ℕ) (scans : List (List ℕ)) (files : Files) → (try_outcome name scans files).ends ≡ Ok tt
    → Accepted name scans files
