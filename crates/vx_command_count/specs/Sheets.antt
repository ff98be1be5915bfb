-- What a sheet of a count does to the journal, and what it comes to.
use Rattle.std.specs.Prelude.{ℕ, ◌++◌, ◌∷◌, [], List, Result, Ok, Err}
use Rattle.vx_election_model.specs.declared.election.Election.{Election}
use Rattle.vx_events.specs.declared.event.Event.{Event}
use Rattle.vx_events.specs.declared.event.Event.TheVariants.{Add}
use Rattle.vx_refusals.specs.declared.reply.Reply.{Reply}
use Rattle.vx_refusals.specs.declared.reply.Reply.TheVariants.{Done, Full}
use Rattle.vx_rules.specs.declared.marks.SheetMarks.{SheetMarks}
use Rattle.vx_journal.specs.declared.journal.Journal.{Journal}
use Rattle.vx_journal.specs.Keeping.{keep_acts, reply_in, journal_with}
use Rattle.vx_sheet.specs.declared.came.Came.{Came}
use Rattle.vx_sheet.specs.declared.came.Came.TheVariants as came
use Rattle.vx_sheet.specs.Events.{event_of}
use Rattle.vx_sheet.specs.Lines.{lines_of}
use Rattle.vx_command.specs.Acts.{Act, Write}
use Rattle.vx_command_count.specs.declared.counting.Counting.{Counting}
use Rattle.vx_command_count.specs.Tally.{next_number, tally_with}

-- what is appended of a sheet by the event that it makes, if it makes one
abbrev pub keep_if : Journal → Result Event Came → List Act
keep_if journal (Err came) = []
keep_if journal (Ok event) = keep_acts journal event

-- the journal behind it
abbrev pub journal_if : Journal → Result Event Came → Journal
journal_if journal (Err came) = journal
journal_if journal (Ok event) = journal_with journal event

-- what a sheet comes to by what is answered to the event that adds it: it is added, or no more may be, or it was there
-- before
abbrev pub came_by : Event → Reply → Came
came_by (Add key sheet) Done = came.Added sheet
came_by event (Full count) = came.Full count
came_by event reply = came.Repeated

-- what a sheet comes to by its event, if it makes one
abbrev pub came_if : Journal → Result Event Came → Came
came_if journal (Err came) = came
came_if journal (Ok event) = came_by event (reply_in journal event)

-- the record of the next sheet is appended where its event is kept, and then its lines are written
abbrev pub made_acts : Election → List ℕ → Counting → Result Event Came → List Act
made_acts election batch counting made =
    keep_if counting.journal made
    ++ Write (lines_of election batch (next_number counting.tally) (came_if counting.journal made)) ∷ []

-- the count behind it
abbrev pub counted_so : Counting → Result Event Came → Counting
counted_so counting made = record {
  journal = journal_if counting.journal made;
  tally = tally_with counting.tally (came_if counting.journal made);
}

-- the same of the next sheet by what was read of its images
abbrev pub sheet_acts : Election → List ℕ → Counting → Result SheetMarks Came → List Act
sheet_acts election batch counting read =
    made_acts election batch counting (event_of batch (next_number counting.tally) read)

abbrev pub counted_with : List ℕ → Counting → Result SheetMarks Came → Counting
counted_with batch counting read = counted_so counting (event_of batch (next_number counting.tally) read)
