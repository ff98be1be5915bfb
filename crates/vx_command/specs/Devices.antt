-- What a command leaves of the devices beside its acts: a count of faults rises where the answer is that device's fault.
-- A clause hands on what a bound says of a device's type, as `I.Inputs`, and the device before and after.
use Rattle.std.specs.Prelude.{◌≡◌, ◌==◌, Bool, true, false, Result, Err}
use Rattle.vx_io.specs.declared.outside.Inputs.{Ghosts as InputsOf}
use Rattle.vx_io.specs.declared.outside.Sink.{Ghosts as SinkOf}
use Rattle.vx_io.specs.declared.outside.Keeper.{Ghosts as KeeperOf}
use Rattle.vx_io.specs.Outside.{CountsFaults}
use Rattle.vx_command.specs.declared.halt.Halt.{Halt}
use Rattle.vx_command.specs.declared.halt.Halt.TheVariants.{NoInput, TooLong, Election, Layout, ReadFault, WriteFault, KeeperFault}

-- the answer is a fault of the inputs, of the sink, of the keeper
abbrev pub is_read_fault : {A : Type 0} → Result A Halt → Bool
is_read_fault (Err ReadFault) = true
is_read_fault answer = false

abbrev pub is_write_fault : {A : Type 0} → Result A Halt → Bool
is_write_fault (Err WriteFault) = true
is_write_fault answer = false

abbrev pub is_keeper_fault : {A : Type 0} → Result A Halt → Bool
is_keeper_fault (Err KeeperFault) = true
is_keeper_fault answer = false

-- inputs after a command: they hold what they held, and their faults show in its answer
pub record LeavesInputs {I A : Type 0} (i : InputsOf I) (before now : I) (answer : Result A Halt) : Type 0 where
  pub same : i.held now ≡ i.held before
  pub counts : CountsFaults (is_read_fault answer) (i.faults before) (i.faults now)

-- a sink after a command: its faults show in the answer (what it has taken stands with the acts)
abbrev pub LeavesSink : {S A : Type 0} → SinkOf S → S → S → Result A Halt → Type 0
LeavesSink s before now answer = CountsFaults (is_write_fault answer) (s.faults before) (s.faults now)

-- a keeper after a command: its faults show in the answer (what it keeps stands with the acts)
abbrev pub LeavesKeeper : {K A : Type 0} → KeeperOf K → K → K → Result A Halt → Type 0
LeavesKeeper k before now answer = CountsFaults (is_keeper_fault answer) (k.faults before) (k.faults now)

-- all three devices after a command
pub record LeavesDevices {I S K A : Type 0} (i : InputsOf I) (s : SinkOf S) (k : KeeperOf K)
    (given given_now : I) (out out_now : S) (kept kept_now : K) (answer : Result A Halt) : Type 0 where
  pub inputs : LeavesInputs i given given_now answer
  pub sink : LeavesSink s out out_now answer
  pub keeper : LeavesKeeper k kept kept_now answer

-- a step that touches the inputs alone: its answer is no fault of another device
pub record TouchesInputs {I A : Type 0} (i : InputsOf I) (before now : I) (answer : Result A Halt) : Type 0 where
  pub inputs : LeavesInputs i before now answer
  pub no_write_fault : is_write_fault answer ≡ false
  pub no_keeper_fault : is_keeper_fault answer ≡ false

-- a step that touches the sink alone
pub record TouchesSink {S A : Type 0} (s : SinkOf S) (before now : S) (answer : Result A Halt) : Type 0 where
  pub sink : LeavesSink s before now answer
  pub no_read_fault : is_read_fault answer ≡ false
  pub no_keeper_fault : is_keeper_fault answer ≡ false

-- a step that touches the keeper alone
pub record TouchesKeeper {K A : Type 0} (k : KeeperOf K) (before now : K) (answer : Result A Halt) : Type 0 where
  pub keeper : LeavesKeeper k before now answer
  pub no_read_fault : is_read_fault answer ≡ false
  pub no_write_fault : is_write_fault answer ≡ false

-- a step that touches the inputs and the sink alone
pub record TouchesInputsAndSink {I S A : Type 0} (i : InputsOf I) (s : SinkOf S)
    (given given_now : I) (out out_now : S) (answer : Result A Halt) : Type 0 where
  pub inputs : LeavesInputs i given given_now answer
  pub sink : LeavesSink s out out_now answer
  pub no_keeper_fault : is_keeper_fault answer ≡ false

-- a step that touches the sink and the keeper alone
pub record TouchesSinkAndKeeper {S K A : Type 0} (s : SinkOf S) (k : KeeperOf K)
    (out out_now : S) (kept kept_now : K) (answer : Result A Halt) : Type 0 where
  pub sink : LeavesSink s out out_now answer
  pub keeper : LeavesKeeper k kept kept_now answer
  pub no_read_fault : is_read_fault answer ≡ false

-- a step that touches no device
pub record TouchesNothing {A : Type 0} (answer : Result A Halt) : Type 0 where
  pub no_read_fault : is_read_fault answer ≡ false
  pub no_write_fault : is_write_fault answer ≡ false
  pub no_keeper_fault : is_keeper_fault answer ≡ false

-- A command that answers so has written nothing: its election or its cards halted it; or its inputs, where it takes
-- all of them before it writes.
abbrev pub writes_nothing : {A : Type 0} → Bool → Result A Halt → Bool
writes_nothing takes_first (Err (NoInput word)) = word == 1
writes_nothing takes_first (Err (TooLong word size)) = word == 1
writes_nothing takes_first (Err (Election fault)) = true
writes_nothing takes_first (Err (Layout card fault)) = true
writes_nothing takes_first (Err ReadFault) = takes_first
writes_nothing takes_first answer = false
