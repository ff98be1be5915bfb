-- What a command wrote of a journal, where it ended well.
use Rattle.std.proofs.Common.{◌≡◌, ℕ, false, List, [], ◌∷◌, Result, Ok, Err, refl, sym, ap, ◌∙◌, subst, append-nil}
use Rattle.vx_io.specs.Outside.{Files, Took}
use Rattle.vx_election_model.specs.declared.election.Election.{Election}
use Rattle.vx_events.specs.declared.event.Event.{Event}
use Rattle.vx_refusals.specs.declared.journal.JournalStop.{JournalStop}
use Rattle.vx_command.specs.declared.halt.Halt.{Halt}
use Rattle.vx_command.specs.Acts.{Answer, Outcome, ReadJournal, Take, after, goes_on, taking, writing}
use Rattle.vx_command.specs.Done.{Taken}
use Rattle.vx_command.specs.Elections.{election_in, once_election}
use Rattle.vx_command.specs.Kept.{RecordsInOrder}
use Rattle.vx_command.specs.Texts.{TextsInOrder, broke_off, texts_of}
use Rattle.vx_journal.specs.declared.journal.Journal.{Journal}
use Rattle.vx_journal.specs.Keeping.{has_none, journal_read}
use Rattle.vx_journal.specs.Laws.{TextsAreOfJournals, WroteOfJournal}
use Rattle.vx_journal.specs.Replay.{replay_of}
use Rattle.vx_journal.specs.Steps.{once_read}
use Rattle.vx_journal.proofs.Histories.{kept-history}

-- all acts were done, and the outcome ends well
record WentWell (outcome : Outcome) (taken taken_now : Taken) : Type 0 where
  pub ends : outcome.ends ≡ Ok tt
  pub took : Took taken taken_now (texts_of outcome)

module _ (name : List ℕ) (files : Files) (records : List (List ℕ)) (text : Election → List Event → List ℕ) (taken taken_now : Taken) where
  module _ (election : Election) (is_read : election_in (files name) ≡ Ok election) where
    abbrev rest : Journal → Outcome
    rest journal = writing (text election journal.center.events)

    -- the journal was read, or the outcome doesn't end well
    read_so : (replayed : Result (List Event) (ℕ × JournalStop)) → replay_of election records ≡ replayed
        → WentWell (after (Take 1 ∷ []) (after (ReadJournal ∷ []) (goes_on (journal_read election (has_none records) replayed) rest))) taken taken_now
        → WroteOfJournal name files records text taken taken_now
    read_so (Err stopped) is well = let never = well.ends in absurd cc
    read_so (Ok events) is well = record {
      election = election;
      is_read = is_read;
      events = events;
      are_kept = is;
      history = kept-history election records events is;
      wrote = subst (Took taken taken_now) (append-nil (text election events)) well.took;
    }

  election : (given : Result Election Halt) → election_in (files name) ≡ given
      → WentWell (taking 1 given (λ some. once_read some records (λ journal. writing (text some journal.center.events)))) taken taken_now
      → WroteOfJournal name files records text taken taken_now
  election (Err cause) is well = let never = well.ends in absurd cc
  election (Ok given) is well = read_so given is (replay_of given records) refl well

pub written : TextsInOrder → RecordsInOrder → TextsAreOfJournals
written texts in_order name files records text taken taken_now held held_now answer it well =
    let outcome = once_election (files name) (λ given. once_read given records (λ journal. writing (text given journal.center.events))) in
    let unbroken : broke_off answer ≡ false = ap broke_off well in
    election name files records text taken taken_now (election_in (files name)) refl (record {
      ends = sym (in_order.ends outcome taken taken_now held held_now answer it unbroken) ∙ well;
      took = (texts outcome taken taken_now held held_now answer it).whole unbroken;
    })
