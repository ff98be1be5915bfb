-- A command that reads its journal and goes on.
use Rattle.std.proofs.Common.{◌≡◌, ◌⊎◌, inl, inr, ℕ, List, [], ◌∷◌, Result, Ok, Err, sym, subst}
use Rattle.vx_election_model.specs.declared.election.Election.{Election}
use Rattle.vx_command.specs.declared.halt.Halt.{Halt}
use Rattle.vx_command.specs.Acts.{ReadJournal, Outcome, goes_on}
use Rattle.vx_command.specs.Done.{Taken, Held, BreaksAt, IsDone, ComesTo}
use Rattle.vx_command.specs.Laws.{ActLaws}
use Rattle.vx_journal.specs.declared.journal.Journal.{Journal}
use Rattle.vx_journal.specs.Keeping.{journal_in}
use Rattle.vx_journal.specs.Steps.{GivesReading, once_read}
use Rattle.vx_journal.proofs.Recorded.{broke_before, was_read}

module _ (laws : ActLaws) (election : Election) (records : List (List ℕ)) (rest : Journal → Outcome) (taken : Taken) (held : Held) where
  pub comes_read : (journal : Journal) → journal_in election records ≡ Ok journal → ComesTo (once_read election records rest) (rest journal) taken taken held held
  comes_read journal is taken_then held_then answer done =
      let Done : Result Journal Halt → Type 0 = λ read. IsDone (goes_on read rest) taken taken_then held held_then answer in
      laws.done (ReadJournal ∷ []) (goes_on (journal_in election records) rest) taken taken held held (was_read taken held) taken_then held_then answer (subst Done (sym is) done)

  halts_reading : (cause : Halt) → (journal_in election records ≡ Err cause) ⊎ BreaksAt cause (ReadJournal ∷ []) [] [] → IsDone (once_read election records rest) taken taken held held (Err cause)
  halts_reading cause (inl is) =
      let Done : Result Journal Halt → Type 0 = λ read. IsDone (goes_on read rest) taken taken held held (Err cause) in
      laws.done (ReadJournal ∷ []) (goes_on (journal_in election records) rest) taken taken held held (was_read taken held) taken held (Err cause) (subst Done (sym is) (laws.ended (Err cause) taken held))
  halts_reading cause (inr broke) =
      laws.broken (ReadJournal ∷ []) (goes_on (journal_in election records) rest) taken taken held held cause (broke_before (ReadJournal ∷ []) taken held cause broke)

  pub halted_reading : (cause : Halt) → GivesReading (Err cause) (journal_in election records) → IsDone (once_read election records rest) taken taken held held (Err cause)
  halted_reading cause gives = halts_reading cause gives
