-- What `results` and `summary` wrote where they ended well.
use Rattle.vx_journal.specs.Laws.{TextsAreOfJournals}
use Rattle.vx_results.specs.Results.{results_text}
use Rattle.vx_results.specs.Summary.{summary_text}
use Rattle.vx_results.specs.Written.{ResultsAreOfWhatWasKept, SummaryIsOfWhatWasKept}

pub written : TextsAreOfJournals → ResultsAreOfWhatWasKept
written texts name files records taken taken_now held held_now answer it well =
    let wrote = texts name files records (λ election events. results_text election events) taken taken_now held held_now answer it well in
    record {
      election = wrote.election;
      is_read = wrote.is_read;
      events = wrote.events;
      are_kept = wrote.are_kept;
      text = wrote.wrote;
      history = wrote.history;
    }

pub summed : TextsAreOfJournals → SummaryIsOfWhatWasKept
summed texts name files records taken taken_now held held_now answer it well =
    let wrote = texts name files records (λ election events. summary_text election events) taken taken_now held held_now answer it well in
    record {
      election = wrote.election;
      is_read = wrote.is_read;
      events = wrote.events;
      are_kept = wrote.are_kept;
      text = wrote.wrote;
      history = wrote.history;
    }
