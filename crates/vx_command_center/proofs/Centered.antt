-- How far a run of `center` has come, from the items that have ended up to the whole command.
use Rattle.std.proofs.Common.{◌≡◌, ℕ, List, ◌++◌, Result, Ok, Err, sym, ap, ap₂, subst, ◌∙◌}
use Rattle.std.specs.Prelude.{Bool}
use Rattle.std.specs.List.{flat_map}
use Rattle.vx_base.specs.Refusals.{Gives}
use Rattle.vx_io.specs.Outside.{Files}
use Rattle.vx_election_model.specs.declared.election.Election.{Election}
use Rattle.vx_layout.specs.declared.plan.CardPlan.{CardPlan}
use Rattle.vx_center.specs.Kept.{Kept}
use Rattle.vx_shared.specs.declared.history.Entry.{Entry}
use Rattle.vx_shared.specs.Laws.{ListsHaveHistories}
use Rattle.vx_shared.specs.Legal.{after, done_events}
use Rattle.vx_words.specs.declared.command.ItemWord.{ItemWord}
use Rattle.vx_command.specs.declared.halt.Halt.{Halt}
use Rattle.vx_command.specs.declared.halt.Halt.TheVariants.{NoMemory}
use Rattle.vx_command.specs.Acts.{Act, Answer, Outcome, work}
use Rattle.vx_command.specs.Done.{Taken, Held, IsDone}
use Rattle.vx_command.specs.Elections.{election_in, once_planned, plans_in}
use Rattle.vx_command.specs.Laws.{ActLaws, StepLaws}
use Rattle.vx_command.specs.Steps.{GivesTaking, is_no_memory}
use Rattle.vx_journal.specs.declared.journal.Journal.{Journal}
use Rattle.vx_journal.specs.Keeping.{begin_acts, has_none, journal_in, journal_read}
use Rattle.vx_journal.specs.Laws.{ReadLaws}
use Rattle.vx_journal.specs.Replay.{replay_of}
use Rattle.vx_journal.specs.Steps.{GivesReading, once_read}
use Rattle.vx_command_center.specs.declared.item.Item.{Item}
use Rattle.vx_command_center.specs.declared.working.Ended.{Ended}
use Rattle.vx_command_center.specs.Histories.{HasEndedSo, IsHistoryOf}
use Rattle.vx_command_center.specs.Items.{lines_of_item}
use Rattle.vx_command_center.specs.Outcome.{append_acts, end_acts, items_taken, journal_outcome, written_acts}
use Rattle.vx_command_center.specs.Runs.{Centers, CentersItems, CentersJournal, CentersPlanned, CentersSet}
use Rattle.vx_command_center.specs.Taking.{TakesItems}
use Rattle.vx_command_center.proofs.Chosen.{chosen, of_replayed, of_taken, of_these}

module _ (election : Election) (moment device : List ℕ) where
  -- what is done when items have ended
  abbrev pub acts_by : List Entry → Journal → List ℕ → List Act
  acts_by history journal text = begin_acts journal ++ (append_acts (done_events history) ++ written_acts election journal.center.events history text moment device)

  pub items_ended : (journal : Journal) (items : List Item) (ended : Ended) (a b : Taken) (h k : Held) (answer : Answer) → journal.center.election ≡ election → HasEndedSo journal items ended → IsDone (work (acts_by ended.history ended.journal ended.text)) a b h k answer → CentersItems election journal moment device items a b h k answer
  items_ended journal items ended a b h k answer same so done =
      let Of : Election → Type 0 = λ e. IsHistoryOf e journal.center.events items ended.history in
      let By : List Act → Type 0 = λ acts. IsDone (work acts) a b h k answer in
      let begun : ended.journal ≡ record { center = after journal.center ended.history; is_new = journal.is_new } =
      ap₂ (λ (center : Kept) (new : Bool). record { center = center; is_new = new }) so.center so.is_new in
      let text : ended.text ≡ flat_map (lines_of_item election) items = so.text ∙ ap (λ (e : Election). flat_map (lines_of_item e) items) same in
      record {
        history = ended.history;
        of_items = subst Of same so.of_items;
        done = subst By (ap₂ (λ (j : Journal) (t : List ℕ). acts_by ended.history j t) begun text) done;
      }

  pub items_have_no_memory : ListsHaveHistories → ActLaws → (journal : Journal) (items : List Item) (a : Taken) (h : Held) → CentersItems election journal moment device items a a h h (Err NoMemory)
  items_have_no_memory have laws journal items a h =
      let it = of_these have election journal.center.events items in
      record {
        history = it.0;
        of_items = it.1;
        done = laws.no_memory (work (end_acts election journal moment device items it.0)) a h;
      }

  module _ (words : List ItemWord) (files : Files) (journal : Journal) (a b : Taken) (h k : Held) where
    -- the items were taken
    pub items_done : (items : List Item) (answer : Answer) → TakesItems election files words (Ok items) → CentersItems election journal moment device items a b h k answer → CentersJournal election journal moment device words files a b h k answer
    items_done items answer takes it = record {
      history = it.history;
      of_items = λ others given.
          let same : items ≡ others = let is = takes.0 in cc in
          subst (λ (some : List Item). IsHistoryOf election journal.center.events some it.history) same it.of_items;
      done = takes.1 (λ some. work (end_acts election journal moment device some it.history)) a h b k answer it.done;
    }

    -- one of them wasn't
    pub items_stopped : ListsHaveHistories → (cause : Halt) → TakesItems election files words (Err cause) → CentersJournal election journal moment device words files a a h h (Err cause)
    items_stopped have cause stops =
        let it = of_taken have election journal.center.events (items_taken election files 4 0 words) in
        record {
          history = it.0;
          of_items = it.1;
          done = stops (λ some. work (end_acts election journal moment device some it.0)) a h;
        }

  module _ (words : List ItemWord) (files : Files) (records : List (List ℕ)) (a b : Taken) (h k : Held) where
    -- the journal was read
    pub journal_done : ReadLaws → (journal : Journal) (answer : Answer) → journal_in election records ≡ Ok journal → CentersJournal election journal moment device words files a b h k answer → CentersSet election moment device words files records a b h k answer
    journal_done laws journal answer read it = record {
      history = it.history;
      of_items = λ kept items is given.
          let there : journal_in election records ≡ journal_read election (has_none records) (Ok kept) = ap (journal_read election (has_none records)) is in
          let whole : Result Journal Halt = journal_read election (has_none records) (Ok kept) in
          let same : journal ≡ record { center = record { election = election; events = kept }; is_new = has_none records } = cc in
          subst (λ (j : Journal). IsHistoryOf election j.center.events items it.history) same (it.of_items items given);
      done = laws.read election records journal (journal_outcome election moment device words files it.history) a h read b k answer it.done;
    }

    -- it wasn't
    pub journal_stopped : ListsHaveHistories → ReadLaws → (cause : Halt) → GivesReading (Err cause) (journal_in election records) → CentersSet election moment device words files records a a h h (Err cause)
    journal_stopped have laws cause stops =
        let it = of_replayed have election (replay_of election records) (items_taken election files 4 0 words) in
        record {
          history = it.0;
          of_items = it.1;
          done = laws.not_read election records cause (journal_outcome election moment device words files it.0) a h stops;
        }

    -- the cards were planned
    pub cards_done : StepLaws (List CardPlan) → (plans : List CardPlan) (answer : Answer) → plans_in election ≡ Ok plans → CentersSet election moment device words files records a b h k answer → CentersPlanned election moment device words files records a b h k answer
    cards_done laws plans answer planned it = record {
      history = it.history;
      of_items = it.of_items;
      done = laws.given (plans_in election) plans (λ cards. once_read election records (journal_outcome election moment device words files it.history)) a planned h b k answer it.done;
    }

    -- they weren't
    pub cards_stopped : ListsHaveHistories → StepLaws (List CardPlan) → (cause : Halt) → Gives is_no_memory (Err cause) (plans_in election) → CentersPlanned election moment device words files records a a h h (Err cause)
    cards_stopped have laws cause stops =
        let it = of_replayed have election (replay_of election records) (items_taken election files 4 0 words) in
        record {
          history = it.0;
          of_items = it.1;
          done = laws.not_given (plans_in election) cause (λ cards. once_read election records (journal_outcome election moment device words files it.0)) a stops h;
        }

module _ (laws : StepLaws Election) (name moment device : List ℕ) (words : List ItemWord) (files : Files) (records : List (List ℕ)) (a b : Taken) (h k : Held) where
  abbrev rest : List Entry → Election → Outcome
  rest history given = once_planned given (once_read given records (journal_outcome given moment device words files history))

  -- the election was taken
  pub election_done : (election : Election) (answer : Answer) → election_in (files name) ≡ Ok election → CentersPlanned election moment device words files records a b h k answer → Centers name moment device words files records a b h k answer
  election_done election answer given it = record {
    history = it.history;
    of_items = λ other kept items is replayed taken.
        let same : election ≡ other = cc in
        let Replayed : Election → Type 0 = λ e. replay_of e records ≡ Ok kept in
        let Taken_so : Election → Type 0 = λ e. items_taken e files 4 0 words ≡ Ok items in
        subst (λ (e : Election). IsHistoryOf e kept items it.history) same
        (it.of_items kept items (subst Replayed (sym same) replayed) (subst Taken_so (sym same) taken));
    done = laws.taken 1 (election_in (files name)) election (rest it.history) a given h b k answer it.done;
  }

  -- it wasn't
  pub election_stopped : ListsHaveHistories → (cause : Halt) → GivesTaking 1 (Err cause) (election_in (files name)) → Centers name moment device words files records a a h h (Err cause)
  election_stopped have cause stops =
      let it = chosen have (election_in (files name)) (λ e. replay_of e records) (λ e. items_taken e files 4 0 words) in
      record {
        history = it.history;
        of_items = it.of_items;
        done = laws.not_taken 1 (election_in (files name)) cause (rest it.history) a stops h;
      }
