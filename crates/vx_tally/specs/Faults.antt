-- Faults of a report: what those of a JSON value are among them, and which is want of memory.
use Rattle.std.specs.Prelude.{Bool, true, false, Result, Ok, Err}
use Rattle.vx_json.specs.declared.fault.JsonFault.{JsonFault}
use Rattle.vx_json.specs.declared.fault.JsonFault.TheVariants as json
use Rattle.vx_tally.specs.declared.fault.ReportFault.{ReportFault}
use Rattle.vx_tally.specs.declared.fault.ReportFault.TheVariants.{NotJson, Missing, WrongKind, OutOfRange, RepeatedId, UnknownId, OutOfMemory}

-- a fault of a JSON value as one of the report
abbrev pub fault_of : JsonFault → ReportFault
fault_of (json.Missing path) = Missing path
fault_of (json.WrongKind path) = WrongKind path
fault_of (json.OutOfRange path) = OutOfRange path
fault_of json.OutOfMemory = OutOfMemory

-- a reading of a JSON value as one of the report
abbrev pub of_json : {A : Type 0} → Result A JsonFault → Result A ReportFault
of_json (Ok x) = Ok x
of_json (Err fault) = Err (fault_of fault)

-- whether a fault is want of memory
abbrev pub is_no_memory : ReportFault → Bool
is_no_memory NotJson = false
is_no_memory (Missing path) = false
is_no_memory (WrongKind path) = false
is_no_memory (OutOfRange path) = false
is_no_memory (RepeatedId path id) = false
is_no_memory (UnknownId path id) = false
is_no_memory OutOfMemory = true
