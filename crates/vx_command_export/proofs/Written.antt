-- What `export` wrote where it ended well.
use Rattle.std.proofs.Common.{Ok, refl, subst}
use Rattle.vx_election_model.specs.declared.election.Election.{Election}
use Rattle.vx_center.specs.Laws.{HistoriesAreShown}
use Rattle.vx_command.specs.Acts.{Answer, Outcome, writing}
use Rattle.vx_command.specs.Done.{IsDone}
use Rattle.vx_command.specs.Elections.{election_in}
use Rattle.vx_cvr.specs.Laws.{PiecesAreTheReport}
use Rattle.vx_cvr.specs.Pieces.{report_pieces}
use Rattle.vx_cvr.specs.Report.{report_of}
use Rattle.vx_journal.specs.declared.journal.Journal.{Journal}
use Rattle.vx_journal.specs.Laws.{TextsAreOfJournals}
use Rattle.vx_command_export.specs.Laws.{ExportsWriteWhatWasKept}
use Rattle.vx_command_export.specs.Outcome.{export_outcome, writing_each}
use Rattle.vx_command_export.proofs.Alike.{done_alike, pieces_alike, taken_alike}

pub written : HistoriesAreShown → TextsAreOfJournals → PiecesAreTheReport → ExportsWriteWhatWasKept
written shown texts pieces name moment device files records taken taken_now held held_now answer it well =
    let in_pieces : Election → Journal → Outcome = λ given journal. writing_each (report_pieces given journal.center.events moment device) in
    let in_one : Election → Journal → Outcome = λ given journal. writing (report_of given journal.center.events moment device) in
    let Done : Answer → Type 0 = λ some. IsDone (export_outcome name moment device files records) taken taken_now held held_now some in
    let alike = taken_alike records in_pieces in_one
    (λ given journal. pieces_alike (report_pieces given journal.center.events moment device) _ (pieces given journal.center.events moment device)) (election_in (files name)) in
    let one = done_alike _ _ taken taken_now held held_now alike (subst Done well it) in
    let wrote = texts name files records (λ election events. report_of election events moment device) taken taken_now held held_now (Ok tt) one refl in
    record {
      election = wrote.election;
      is_read = wrote.is_read;
      events = wrote.events;
      are_kept = wrote.are_kept;
      report = wrote.wrote;
      history = wrote.history;
      shows = shown wrote.election wrote.events wrote.history;
    }
