-- What the lines of a sheet may be written of.
use Rattle.std.proofs.Common.{◌≡◌, ℕ, Bool, true, List}
use Rattle.std.specs.Prelude.{◌&&◌, ◌%◌, ◌==◌, nat_lt, IfErr, IfOk, Result, Ok, Err}
use Rattle.std.specs.List.{list_all}
use Rattle.vx_base.proofs.Booleans.{and-right}
use Rattle.vx_election_model.specs.declared.election.Election.{Election}
use Rattle.vx_election_model.specs.Lists.{card_count}
use Rattle.vx_events.specs.declared.event.Event.{Event}
use Rattle.vx_events.specs.declared.event.Event.TheVariants.{Add, Claim, Release, Decide}
use Rattle.vx_events.specs.declared.key.Key.{Key}
use Rattle.vx_events.specs.Ascending.{is_ascending}
use Rattle.vx_events.specs.Fits.{Fits, contests_of, is_key, is_read, is_sheet}
use Rattle.vx_refusals.specs.declared.reply.Reply.{Reply}
use Rattle.vx_refusals.specs.declared.reply.Reply.TheVariants.{Done, Full}
use Rattle.vx_rules.specs.declared.marks.SheetMarks.{SheetMarks}
use Rattle.vx_journal.specs.declared.journal.Journal.{Journal}
use Rattle.vx_journal.specs.Keeping.{reply_in}
use Rattle.vx_sheet.specs.declared.came.Came.{Came}
use Rattle.vx_sheet.specs.Shows.{IsReadAll}
use Rattle.vx_command_count.specs.Sheets.{came_by, came_if}

read-all : (election : Election) (key : Key) (sheet : SheetMarks) → Fits election (Add key sheet) → list_all (is_read election) sheet.contests ≡ true
read-all election key sheet fits =
    and-right (nat_lt sheet.card (card_count election.styles) && (sheet.front % 2 == 1) && nat_lt sheet.front 64 && is_ascending (contests_of sheet.contests))
    (list_all (is_read election) sheet.contests) (and-right (is_key key) (is_sheet election sheet) fits)

told-by : (election : Election) (event : Event) (reply : Reply) → Fits election event → IsReadAll election (came_by event reply)
told-by election (Add key sheet) Done fits = read-all election key sheet fits
told-by election (Add key sheet) (Full count) fits = tt
told-by election (Add key sheet) reply fits = tt
told-by election (Claim station key) (Full count) fits = tt
told-by election (Claim station key) reply fits = tt
told-by election (Release station key) (Full count) fits = tt
told-by election (Release station key) reply fits = tt
told-by election (Decide station key contest decision) (Full count) fits = tt
told-by election (Decide station key contest decision) reply fits = tt

-- whatever a sheet comes to, its lines can be written
pub told-if : (election : Election) (journal : Journal) (made : Result Event Came) → IfOk made (Fits election) → IfErr made (IsReadAll election) → IsReadAll election (came_if journal made)
told-if election journal (Err came) fits told = told
told-if election journal (Ok event) fits told = told-by election event (reply_in journal event) fits
