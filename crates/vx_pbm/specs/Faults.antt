-- Which faults are want of memory.
use Rattle.std.specs.Prelude.{Bool, true, false}
use Rattle.vx_pbm.specs.declared.fault.PbmFault.{PbmFault}
use Rattle.vx_pbm.specs.declared.fault.PbmFault.TheVariants.{OutOfMemory}

-- want of memory
abbrev pub is_no_memory : PbmFault → Bool
is_no_memory OutOfMemory = true
is_no_memory fault = false
