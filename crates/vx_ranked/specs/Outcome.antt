-- What `ranked` does: it takes its election, whose cards it plans, reads its journal, takes its file of ranked contests,
-- and writes the rounds of each group. It appends nothing.
use Rattle.std.specs.Prelude.{ℕ, ◌++◌, ◌∷◌, [], List, Option, None, Some, Result, Ok, Err}
use Rattle.vx_election_model.specs.declared.election.Election.{Election}
use Rattle.vx_events.specs.declared.event.Event.{Event}
use Rattle.vx_layout.specs.declared.plan.CardPlan.{CardPlan}
use Rattle.vx_io.specs.Outside.{Files}
use Rattle.vx_command.specs.declared.halt.Halt.{Halt}
use Rattle.vx_command.specs.Acts.{Act, Take, ReadJournal, Write, Outcome, input_limit, input_of}
use Rattle.vx_command.specs.Elections.{election_in, plans_in}
use Rattle.vx_journal.specs.declared.journal.Journal.{Journal}
use Rattle.vx_journal.specs.Keeping.{journal_in}
use Rattle.vx_ranked.specs.declared.fault.RankedFault.{RankedFault}
use Rattle.vx_ranked.specs.declared.groups.Group.{Group}
use Rattle.vx_ranked.specs.Reading.{groups_in_bytes}
use Rattle.vx_ranked.specs.Texts.{ranked_text}
use Rattle.vx_ranked.specs.Status.{Ended, answer_of}

-- the acts of a `ranked`, and what it comes to behind the last of them where nothing fails
pub record RankedOutcome : Type 0 where
  pub acts : List Act
  pub ends : Ended

-- the same as that of a command
abbrev pub as_command : RankedOutcome → Outcome
as_command outcome = record { acts = outcome.acts; ends = answer_of outcome.ends }

-- a `ranked` that ends here
abbrev pub ended : Ended → RankedOutcome
ended ends = record { acts = []; ends = ends }

-- acts before those of an outcome
abbrev pub after : List Act → RankedOutcome → RankedOutcome
after acts outcome = record { acts = acts ++ outcome.acts; ends = outcome.ends }

-- it goes on with what it was given, or halts where it wasn't given it
abbrev pub goes_on : {A : Type 0} → Result A Halt → (A → RankedOutcome) → RankedOutcome
goes_on (Err cause) rest = ended (Err cause)
goes_on (Ok given) rest = rest given

-- it goes on with the groups of its file, or ends where the file is refused
abbrev pub once_grouped : Result (List Group) RankedFault → (List Group → RankedOutcome) → RankedOutcome
once_grouped (Err fault) rest = ended (Ok (Some fault))
once_grouped (Ok groups) rest = rest groups

-- it takes the input of a word and goes on with what that gives it
abbrev pub taking : {A : Type 0} → ℕ → Result A Halt → (A → RankedOutcome) → RankedOutcome
taking word given rest = after (Take word ∷ []) (goes_on given rest)

-- it reads the journal of its election and goes on with it
abbrev pub once_read : Election → List (List ℕ) → (Journal → RankedOutcome) → RankedOutcome
once_read election records rest = after (ReadJournal ∷ []) (goes_on (journal_in election records) rest)

-- it writes the rounds of groups
abbrev pub writing : List ℕ → RankedOutcome
writing text = after (Write text ∷ []) (ended (Ok None))

-- the file of ranked contests is read against the election and the plans of its cards, and the rounds of its groups are
-- written by the kept events
abbrev pub groups_outcome : Election → List CardPlan → List Event → List ℕ → RankedOutcome
groups_outcome election plans kept bytes =
    once_grouped (groups_in_bytes election plans bytes) (λ groups. writing (ranked_text election kept groups))

-- the file of ranked contests is taken, which word 2 names
abbrev pub file_outcome : Election → List CardPlan → List Event → Option (List ℕ) → RankedOutcome
file_outcome election plans kept file = taking 2 (input_of 2 input_limit file) (groups_outcome election plans kept)

-- the journal is read before it
abbrev pub journal_outcome : Election → List CardPlan → Option (List ℕ) → List (List ℕ) → RankedOutcome
journal_outcome election plans file records =
    once_read election records (λ journal. file_outcome election plans journal.center.events file)

-- and the cards are planned before that
abbrev pub planned_outcome : Election → Option (List ℕ) → List (List ℕ) → RankedOutcome
planned_outcome election file records =
    goes_on (plans_in election) (λ plans. journal_outcome election plans file records)

-- a `ranked` with an election and a file of ranked contests under these names, over the records of its journal
abbrev pub ranked_outcome : List ℕ → List ℕ → Files → List (List ℕ) → RankedOutcome
ranked_outcome election ranked files records =
    taking 1 (election_in (files election)) (λ given. planned_outcome given (files ranked) records)
