-- A day: the two pages of a sheet as they are printed, without a mark, counted into an empty journal, and what an export
-- writes of them. It shows that there are sheets of which the laws of this crate speak.
use Rattle.std.specs.Prelude.{◌≡◌, ◌≤◌, ℕ, ◌%◌, List, [], ◌∷◌, ◌++◌, length, IsOk, Some, Ok}
use Rattle.vx_io.specs.Outside.{Took}
use Rattle.vx_election_model.specs.declared.election.Election.{Election}
use Rattle.vx_election_model.specs.Valid.{IsValid}
use Rattle.vx_events.specs.declared.event.Event.{Event}
use Rattle.vx_layout.specs.Printed.{IsPlanned, bitmap_of}
use Rattle.vx_pbm.specs.Raw.{p4_of}
use Rattle.vx_scan_model.specs.Fits.{no_marks}
use Rattle.vx_sheet.specs.Margin.{MarkedSheet, back_of, front_of}
use Rattle.vx_center.specs.Sheets.{Added}
use Rattle.vx_cvr.specs.Report.{report_of}
use Rattle.vx_command.specs.Acts.{input_limit}
use Rattle.vx_command.specs.Elections.{plans_in}
use Rattle.vx_journal.specs.Replay.{replay_of}
use Rattle.vx_command_count.specs.Margin.{key_at}
use Rattle.vx_words.specs.declared.command.Command.TheVariants.{Center, Count, Export}
use Rattle.vx_words.specs.declared.command.ItemWord.TheVariants.{Scan}
use Rattle.vx_app.specs.Journals.{IsRun, Run}
use Rattle.vx_headline.specs.Counted.{CountedBy}
use Rattle.vx_headline.specs.Exported.{StandsMarked}

-- a sheet of a valid election whose cards can be planned: two pages that face each other, with their plans, and no mark
pub record IsPrinted (election : Election) (sheet : MarkedSheet) : Type 0 where
  pub valid : IsValid election
  pub planned : IsOk (plans_in election)
  pub odd : sheet.front % 2 ≡ 1
  pub front_planned : IsPlanned election (front_of sheet) sheet.front_plan
  pub back_planned : IsPlanned election (back_of sheet) sheet.back_plan
  pub no_front_marks : sheet.front_marks ≡ no_marks sheet.front_plan
  pub no_back_marks : sheet.back_marks ≡ no_marks sheet.back_plan

-- both pages as they are printed, as the bytes of a scan
abbrev pub prints_of : Election → MarkedSheet → List ℕ
prints_of election sheet =
    p4_of (bitmap_of election sheet.front_plan (front_of sheet)) ++ p4_of (bitmap_of election sheet.back_plan (back_of sheet))

-- a `count` of that scan alone, which ended well
pub record CountsPrints (election : Election) (sheet : MarkedSheet) (batch : List ℕ) (one : Run) : Type 0 where
  pub name : List ℕ
  pub workers : ℕ
  pub scan : List ℕ
  pub is_count : one.command ≡ Count name batch workers (scan ∷ [])
  pub is_file : one.files scan ≡ Some (prints_of election sheet)
  pub short : length (prints_of election sheet) ≤ input_limit
  pub well : one.answer ≡ Ok tt

-- over no record it counts that sheet
abbrev pub PrintsAreCounted : Type 0
PrintsAreCounted =
    (election : Election) (sheet : MarkedSheet) (batch : List ℕ) (one : Run)
    → IsPrinted election sheet → CountsPrints election sheet batch one
    → CountedBy election [] (one ∷ []) (key_at batch 0) sheet

-- a `center` of that scan alone, which ended well
pub record CentersPrints (election : Election) (sheet : MarkedSheet) (batch : List ℕ) (one : Run) : Type 0 where
  pub name : List ℕ
  pub moment : List ℕ
  pub device : List ℕ
  pub scan : List ℕ
  pub is_center : one.command ≡ Center name moment device (Scan batch scan ∷ [])
  pub is_file : one.files scan ≡ Some (prints_of election sheet)
  pub short : length (prints_of election sheet) ≤ input_limit
  pub well : one.answer ≡ Ok tt

-- over no record it counts that sheet too
abbrev pub CentersCountPrints : Type 0
CentersCountPrints =
    (election : Election) (sheet : MarkedSheet) (batch : List ℕ) (one : Run)
    → IsPrinted election sheet → CentersPrints election sheet batch one
    → CountedBy election [] (one ∷ []) (record { batch = batch; number = 1 }) sheet

-- an export wrote the report of the kept events, and the sheet stands in it as it was printed
pub record ExportsPrints (election : Election) (sheet : MarkedSheet) (batch : List ℕ) (left : List (List ℕ)) (last : Run)
    (moment device : List ℕ) : Type 0 where
  pub kept : List Event
  pub are_kept : replay_of election left ≡ Ok kept
  pub report : Took last.taken last.taken_now (report_of election kept moment device)
  pub added : Added
  pub stands : StandsMarked election kept (key_at batch 0) sheet added

-- so it is of an export that ended well directly behind that `count`
abbrev pub PrintsAreExported : Type 0
PrintsAreExported =
    (election : Election) (sheet : MarkedSheet) (batch : List ℕ) (one last : Run) (name moment device : List ℕ)
    → IsPrinted election sheet → CountsPrints election sheet batch one → IsRun election [] one
    → IsRun election one.left last → last.command ≡ Export name moment device → last.answer ≡ Ok tt
    → ExportsPrints election sheet batch one.left last moment device
