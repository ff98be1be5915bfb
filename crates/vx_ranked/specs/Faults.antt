-- Faults of a file of ranked contests: what those of a JSON value are among them, and which is want of memory.
use Rattle.std.specs.Prelude.{Bool, true, false, Result, Ok, Err}
use Rattle.vx_json.specs.declared.fault.JsonFault.{JsonFault}
use Rattle.vx_json.specs.declared.fault.JsonFault.TheVariants as json
use Rattle.vx_ranked.specs.declared.fault.RankedFault.{RankedFault}
use Rattle.vx_ranked.specs.declared.fault.RankedFault.TheVariants.{NotJson, Missing, WrongKind, OutOfRange, RepeatedId, UnknownId, Unlike, Split, OutOfMemory}

-- a fault of a JSON value as one of the file
abbrev pub fault_of : JsonFault → RankedFault
fault_of (json.Missing path) = Missing path
fault_of (json.WrongKind path) = WrongKind path
fault_of (json.OutOfRange path) = OutOfRange path
fault_of json.OutOfMemory = OutOfMemory

-- a reading of a JSON value as one of the file
abbrev pub of_json : {A : Type 0} → Result A JsonFault → Result A RankedFault
of_json (Ok x) = Ok x
of_json (Err fault) = Err (fault_of fault)

-- whether a fault is want of memory
abbrev pub is_no_memory : RankedFault → Bool
is_no_memory NotJson = false
is_no_memory (Missing path) = false
is_no_memory (WrongKind path) = false
is_no_memory (OutOfRange path) = false
is_no_memory (RepeatedId path id) = false
is_no_memory (UnknownId path id) = false
is_no_memory (Unlike path) = false
is_no_memory (Split card id) = false
is_no_memory OutOfMemory = true
