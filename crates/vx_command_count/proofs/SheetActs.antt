-- A sheet whose record is appended, and whose lines are written then.
use Rattle.std.proofs.Common.{◌≡◌, ◌⊎◌, inl, inr, List, ◌++◌, ◌∷◌, [], ℕ, Bool, false, Result, Ok, Err, refl, arith}
use Rattle.vx_io.specs.Outside.{CountsFaults}
use Rattle.vx_command.specs.declared.halt.Halt.{Halt}
use Rattle.vx_command.specs.declared.halt.Halt.TheVariants.{ReadFault, WriteFault, KeeperFault, NoMemory}
use Rattle.vx_command.specs.Acts.{Act, Write, work, writing}
use Rattle.vx_command.specs.Devices.{writes_nothing}
use Rattle.vx_command.specs.Done.{Taken, Held, BreaksAt, BreaksOff, IsWhole, IsDone, IsWritten}
use Rattle.vx_command.specs.Laws.{ActLaws}
use Rattle.vx_journal.specs.Steps.{IsRecorded}

module _ (laws : ActLaws) (acts : List Act) (text : List ℕ) where
  -- nothing is done where memory runs out first
  pub none-kept : (cause : Halt) (taken : Taken) (held held_now : Held) → IsRecorded acts held held_now (Err cause) → IsDone (work (acts ++ Write text ∷ [])) taken taken held held_now (Err cause)
  none-kept cause taken held held_now recorded = laws.broken acts (writing text) taken taken held held_now cause (recorded taken)

  -- the record is appended and the lines are written, or not whole
  pub kept-then : (taken taken_now : Taken) (held held_now : Held) (answer : Result (Unit {0}) Halt) → IsRecorded acts held held_now (Ok tt) → IsWritten (writing text) taken taken_now answer → IsDone (work (acts ++ Write text ∷ [])) taken taken_now held held_now answer
  kept-then taken taken_now held held_now answer recorded written =
      laws.done acts (writing text) taken taken held held_now (recorded taken) taken_now held_now answer (written held_now)

breaks-late : (cause : Halt) (acts : List Act) (text : List ℕ) (records : List (List ℕ)) → BreaksAt cause acts text records → writes_nothing {A = Unit {0}} false (Err cause) ≡ false
breaks-late ReadFault acts text records broke = refl
breaks-late WriteFault acts text records broke = refl
breaks-late KeeperFault acts text records broke = refl
breaks-late NoMemory acts text records broke = refl
breaks-late cause acts text records broke = absurd broke

-- acts that broke off didn't do so before anything could be written
pub late-of : (acts : List Act) (taken taken_now : Taken) (held held_now : Held) (cause : Halt) → IsDone (work acts) taken taken_now held held_now (Err cause) → writes_nothing {A = Unit {0}} false (Err cause) ≡ false
late-of acts taken taken_now held held_now cause done = by done.ends
  where
    by : IsWhole (Ok tt) (Err cause) done.left done.text done.records ⊎ BreaksOff (Err cause) done.left done.text done.records → writes_nothing {A = Unit {0}} false (Err cause) ≡ false
    by (inl whole) = let never = whole.same_answer in absurd cc
    by (inr broke) = breaks-late cause done.left done.text done.records broke

-- a count of faults that stands still
pub still-counts : (failed : Bool) (faults : ℕ) → failed ≡ false → CountsFaults failed faults faults
still-counts failed faults no_fault = record {
  later = omega arith;
  rose = λ h. absurd cc;
  still = λ _. refl;
}
