-- The election that a command takes first, and the plans of its cards.
use Rattle.std.specs.Prelude.{ℕ, List, Option, Result, Ok, Err}
use Rattle.vx_base.specs.Results.{◌>>=◌}
use Rattle.vx_election_model.specs.declared.election.Election.{Election}
use Rattle.vx_election.specs.declared.fault.ElectionFault.{ElectionFault}
use Rattle.vx_election.specs.Reading.{election_of}
use Rattle.vx_layout.specs.declared.plan.CardPlan.{CardPlan}
use Rattle.vx_layout.specs.declared.fault.CardFault.{CardFault}
use Rattle.vx_layout.specs.Plans.{plans_of}
use Rattle.vx_command.specs.declared.halt.Halt.{Halt}
use Rattle.vx_command.specs.declared.halt.Halt.TheVariants as halt
use Rattle.vx_command.specs.Acts.{Outcome, goes_on, taking, input_of, input_limit}

-- the election that was read, or why a command that needs it halts
abbrev pub election_read : Result Election ElectionFault → Result Election Halt
election_read (Ok election) = Ok election
election_read (Err fault) = Err (halt.Election fault)

-- the election of an input, which a command names in word 1
abbrev pub election_in : Option (List ℕ) → Result Election Halt
election_in file = input_of 1 input_limit file >>= (λ bytes. election_read (election_of bytes))

-- a command that takes its election and goes on with it
abbrev pub once_election : Option (List ℕ) → (Election → Outcome) → Outcome
once_election file rest = taking 1 (election_in file) rest

-- the cards that were planned, or why a command that needs them halts
abbrev pub plans_made : Result (List CardPlan) CardFault → Result (List CardPlan) Halt
plans_made (Ok plans) = Ok plans
plans_made (Err refused) = Err (halt.Layout refused.card refused.fault)

-- the plans of all cards of an election, in order
abbrev pub plans_in : Election → Result (List CardPlan) Halt
plans_in election = plans_made (plans_of election)

-- a command that plans all cards of its election and goes on
abbrev pub once_planned : Election → Outcome → Outcome
once_planned election rest = goes_on (plans_in election) (λ plans. rest)
