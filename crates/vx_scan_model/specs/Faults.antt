-- Faults of a page.
use Rattle.std.specs.Prelude.{Bool, true, false}
use Rattle.vx_scan_model.specs.declared.fault.PageFault.{PageFault}
use Rattle.vx_scan_model.specs.declared.fault.PageFault.TheVariants.{OutOfMemory}

-- whether a fault is want of memory
abbrev pub is_no_memory : PageFault → Bool
is_no_memory OutOfMemory = true
is_no_memory fault = false
