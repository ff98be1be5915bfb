-- Which fault of a sheet is want of memory.
use Rattle.std.specs.Prelude.{Bool, true, false}
use Rattle.vx_sheet.specs.declared.fault.SheetFault.{SheetFault}
use Rattle.vx_sheet.specs.declared.fault.SheetFault.TheVariants.{OutOfMemory}

-- whether a fault is want of memory
abbrev pub is_no_memory : SheetFault → Bool
is_no_memory OutOfMemory = true
is_no_memory fault = false
