-- Which faults are want of memory.
use Rattle.std.specs.Prelude.{Bool, true, false}
use Rattle.vx_readings.specs.declared.fault.ReadingsFault.{ReadingsFault}
use Rattle.vx_readings.specs.declared.fault.ReadingsFault.TheVariants.{OutOfMemory}

-- want of memory
abbrev pub is_no_memory : ReadingsFault → Bool
is_no_memory OutOfMemory = true
is_no_memory fault = false
