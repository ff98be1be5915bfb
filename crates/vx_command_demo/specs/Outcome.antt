-- What `demo` does: it reads its own election, plans its cards, and writes the summary of so many simulated sheets.
use Rattle.std.specs.Prelude.{ℕ, Result}
use Rattle.vx_election_model.specs.declared.election.Election.{Election}
use Rattle.vx_election.specs.Reading.{election_of}
use Rattle.vx_command.specs.declared.halt.Halt.{Halt}
use Rattle.vx_command.specs.Acts.{Outcome, goes_on, writing}
use Rattle.vx_command.specs.Elections.{election_read, plans_in}
use Rattle.vx_command_demo.specs.Election.{demo_text}
use Rattle.vx_command_demo.specs.Summary.{summary_of}

-- the demo election, or why `demo` halts
unfoldable pub election_defined : Result Election Halt
election_defined = election_read (election_of demo_text)

-- `demo` of an election: the summary of its simulated sheets
abbrev pub election_outcome : Election → ℕ → ℕ → Outcome
election_outcome election seed sheets =
    goes_on (plans_in election) (λ plans. writing (summary_of election plans seed sheets))

-- `demo` from a seed, of so many sheets
abbrev pub demo_outcome : ℕ → ℕ → Outcome
demo_outcome seed sheets = goes_on election_defined (λ election. election_outcome election seed sheets)
