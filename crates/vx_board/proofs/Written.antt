-- What `board` wrote where it ended well.
use Rattle.vx_journal.specs.Laws.{TextsAreOfJournals}
use Rattle.vx_board.specs.Data.{board_text}
use Rattle.vx_board.specs.Written.{BoardIsOfWhatWasKept}

pub written : TextsAreOfJournals → BoardIsOfWhatWasKept
written texts name seed size files records taken taken_now held held_now answer it well =
    let wrote = texts name files records (λ election events. board_text election events seed size) taken taken_now held held_now answer it well in
    record {
      election = wrote.election;
      is_read = wrote.is_read;
      events = wrote.events;
      are_kept = wrote.are_kept;
      text = wrote.wrote;
      history = wrote.history;
    }
