-- Faults of a bitmap as text: their number, and their values with blanks between.
use Rattle.std.specs.Prelude.{ℕ, List, ◌++◌, ◌∷◌, codes}
use Rattle.std.specs.Fmt.{decimal}
use Rattle.vx_pbm.specs.declared.fault.PbmFault.{PbmFault}
use Rattle.vx_pbm.specs.declared.fault.PbmFault.TheVariants.{BadMagic, BadHeader, SizeTooLarge, Truncated, BadPixel, TrailingPlain, OutOfMemory}

-- a fault's number and its values
abbrev pub pbm_fault_text : PbmFault → List ℕ
pbm_fault_text (BadMagic at) = codes "1 " ++ decimal at
pbm_fault_text (BadHeader at) = codes "2 " ++ decimal at
pbm_fault_text (SizeTooLarge width height) = codes "3 " ++ decimal width ++ 32 ∷ decimal height
pbm_fault_text (Truncated have need) = codes "4 " ++ decimal have ++ 32 ∷ decimal need
pbm_fault_text (BadPixel at) = codes "5 " ++ decimal at
pbm_fault_text (TrailingPlain at) = codes "6 " ++ decimal at
pbm_fault_text OutOfMemory = codes "out of memory"
