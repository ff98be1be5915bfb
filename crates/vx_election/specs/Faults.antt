-- Faults of an election definition: what those of a JSON value are among them, and which is want of memory.
use Rattle.std.specs.Prelude.{Bool, true, false, Result, Ok, Err}
use Rattle.vx_json.specs.declared.fault.JsonFault.{JsonFault}
use Rattle.vx_json.specs.declared.fault.JsonFault.TheVariants as json
use Rattle.vx_election.specs.declared.fault.ElectionFault.{ElectionFault}
use Rattle.vx_election.specs.declared.fault.ElectionFault.TheVariants.{NotJson, Missing, WrongKind, OutOfRange, RepeatedId, UnknownId, BadThresholds, TooMany, TooManyCards, OutOfMemory}

-- a fault of a JSON value as one of the definition
abbrev pub fault_of : JsonFault → ElectionFault
fault_of (json.Missing path) = Missing path
fault_of (json.WrongKind path) = WrongKind path
fault_of (json.OutOfRange path) = OutOfRange path
fault_of json.OutOfMemory = OutOfMemory

-- a reading of a JSON value as one of the definition
abbrev pub of_json : {A : Type 0} → Result A JsonFault → Result A ElectionFault
of_json (Ok x) = Ok x
of_json (Err fault) = Err (fault_of fault)

-- whether a fault is want of memory
abbrev pub is_no_memory : ElectionFault → Bool
is_no_memory NotJson = false
is_no_memory (Missing path) = false
is_no_memory (WrongKind path) = false
is_no_memory (OutOfRange path) = false
is_no_memory (RepeatedId path id) = false
is_no_memory (UnknownId path id) = false
is_no_memory (BadThresholds marg def) = false
is_no_memory (TooMany path count) = false
is_no_memory (TooManyCards count) = false
is_no_memory OutOfMemory = true
