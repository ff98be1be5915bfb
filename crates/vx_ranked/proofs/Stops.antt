-- Whatever halts a step of a `ranked` may halt the `ranked`.
use Rattle.std.proofs.Common.{ℕ, List, None, Err, inl, inr}
use Rattle.vx_command.specs.declared.halt.Halt.{Halt}
use Rattle.vx_command.specs.declared.halt.Halt.TheVariants as halt
use Rattle.vx_command.specs.Acts.{Act, writing}
use Rattle.vx_command.specs.Done.{Taken, IsDone, IsWritten, BreaksAt}
use Rattle.vx_command.specs.Steps.{IsTakingHalt, IsElectionHalt, IsPlanHalt}
use Rattle.vx_journal.specs.Steps.{IsReadingHalt}
use Rattle.vx_ranked.specs.Status.{IsStop}

-- the taking of an input
pub taking_stops : (word : ℕ) (cause : Halt) → IsTakingHalt word cause → IsStop cause
taking_stops word (halt.NoInput other) is = tt
taking_stops word (halt.TooLong other size) is = tt
taking_stops word halt.ReadFault is = tt
taking_stops word halt.NoMemory is = tt
taking_stops word cause is = absurd is

-- that of the election
pub election_stops : (cause : Halt) → IsElectionHalt cause → IsStop cause
election_stops (halt.Election fault) is = tt
election_stops cause is = taking_stops 1 cause is

-- the planning of cards
pub plan_stops : (cause : Halt) → IsPlanHalt cause → IsStop cause
plan_stops (halt.Layout card fault) is = tt
plan_stops halt.NoMemory is = tt
plan_stops cause is = absurd is

-- the reading of the journal
pub reading_stops : (cause : Halt) → IsReadingHalt cause → IsStop cause
reading_stops (halt.Journal index stop) is = tt
reading_stops halt.KeeperFault is = tt
reading_stops halt.NoMemory is = tt
reading_stops cause is = absurd is

-- what breaks off acts
breaks_stop : (cause : Halt) (acts : List Act) (text : List ℕ) (records : List (List ℕ)) → BreaksAt cause acts text records → IsStop cause
breaks_stop halt.ReadFault acts text records breaks = tt
breaks_stop halt.WriteFault acts text records breaks = tt
breaks_stop halt.KeeperFault acts text records breaks = tt
breaks_stop halt.NoMemory acts text records breaks = tt
breaks_stop cause acts text records breaks = absurd breaks

-- the writing
pub written_stops : (text : List ℕ) (a b : Taken) (cause : Halt) → IsWritten (writing text) a b (Err cause) → IsStop cause
written_stops text a b cause written =
    let done : IsDone (writing text) a b None None (Err cause) = written None in
    elim done.ends [
      | inl whole ↦ (let same = whole.same_answer in absurd cc)
      | inr breaks ↦ breaks_stop cause done.left done.text done.records breaks
    ]
