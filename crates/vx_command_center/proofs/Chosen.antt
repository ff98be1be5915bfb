-- Where a command breaks off before its items have ended, some history of them is chosen.
use Rattle.std.proofs.Common.{◌≡◌, ℕ, List, [], map, Result, Ok, Err, sym, subst}
use Rattle.vx_election_model.specs.declared.election.Election.{Election}
use Rattle.vx_events.specs.declared.event.Event.{Event}
use Rattle.vx_refusals.specs.declared.journal.JournalStop.{JournalStop}
use Rattle.vx_shared.specs.declared.history.Entry.{Entry}
use Rattle.vx_shared.specs.Laws.{ListsHaveHistories}
use Rattle.vx_command.specs.declared.halt.Halt.{Halt}
use Rattle.vx_command_center.specs.declared.item.Item.{Item}
use Rattle.vx_command_center.specs.Histories.{IsHistoryOf}
use Rattle.vx_command_center.specs.Items.{events_of}

-- a history of items that may not be taken, behind events that may not be read, for an election that may not either
pub record Chosen (given : Result Election Halt) (replayed : Election → Result (List Event) (ℕ × JournalStop)) (taken : Election → Result (List Item) Halt) : Type 0 where
  pub history : List Entry
  pub of_items : (election : Election) (kept : List Event) (items : List Item) → given ≡ Ok election → replayed election ≡ Ok kept → taken election ≡ Ok items → IsHistoryOf election kept items history

module _ (have : ListsHaveHistories) where
  pub of_these : (election : Election) (kept : List Event) (items : List Item) → (history : List Entry) × IsHistoryOf election kept items history
  of_these election kept items =
      let it = have (record { election = election; events = kept }) (map (events_of election) items) in
      (it.history, record { legal = it.legal; interleaved = it.interleaved })

  pub of_taken : (election : Election) (kept : List Event) (taken : Result (List Item) Halt) → (history : List Entry) × ((items : List Item) → taken ≡ Ok items → IsHistoryOf election kept items history)
  of_taken election kept (Err cause) = ([], λ items is. absurd cc)
  of_taken election kept (Ok given) =
      let it = of_these election kept given in
      (it.0, λ items is. let same : given ≡ items = cc in subst (λ (some : List Item). IsHistoryOf election kept some it.0) same it.1)

  pub of_replayed : (election : Election) (replayed : Result (List Event) (ℕ × JournalStop)) (taken : Result (List Item) Halt) → (history : List Entry) × ((kept : List Event) (items : List Item) → replayed ≡ Ok kept → taken ≡ Ok items → IsHistoryOf election kept items history)
  of_replayed election (Err stopped) taken = ([], λ kept items is given. absurd cc)
  of_replayed election (Ok events) taken =
      let it = of_taken election events taken in
      (it.0, λ kept items is given. let same : events ≡ kept = cc in subst (λ (some : List Event). IsHistoryOf election some items it.0) same (it.1 items given))

  pub chosen : (given : Result Election Halt) (replayed : Election → Result (List Event) (ℕ × JournalStop)) (taken : Election → Result (List Item) Halt) → Chosen given replayed taken
  chosen (Err cause) replayed taken = record { history = []; of_items = λ election kept items is read some. absurd cc }
  chosen (Ok known) replayed taken =
      let it = of_replayed known (replayed known) (taken known) in
      record {
        history = it.0;
        of_items = λ election kept items is read some.
            let same : election ≡ known = cc in
            subst (λ (e : Election). IsHistoryOf e kept items it.0) (sym same)
            (it.1 kept items (subst (λ (e : Election). replayed e ≡ Ok kept) same read) (subst (λ (e : Election). taken e ≡ Ok items) same some));
      }
