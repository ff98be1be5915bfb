-- Which faults say that memory ran out.
use Rattle.std.specs.Prelude.{Bool, true, false}
use Rattle.vx_json.specs.declared.fault.JsonFault.{JsonFault}
use Rattle.vx_json.specs.declared.fault.JsonFault.TheVariants.{Missing, WrongKind, OutOfRange, OutOfMemory}

-- whether a fault is want of memory
abbrev pub is_no_memory : JsonFault → Bool
is_no_memory (Missing path) = false
is_no_memory (WrongKind path) = false
is_no_memory (OutOfRange path) = false
is_no_memory OutOfMemory = true
