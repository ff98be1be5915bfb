-- Faults of a grayscale image as text: their number, and their values with blanks between.
use Rattle.std.specs.Prelude.{ℕ, List, ◌++◌, ◌∷◌, codes}
use Rattle.std.specs.Fmt.{decimal}
use Rattle.vx_gray.specs.declared.fault.PgmFault.{PgmFault}
use Rattle.vx_gray.specs.declared.fault.PgmFault.TheVariants.{BadMagic, BadHeader, SizeTooLarge, Truncated, BadMaxval}

-- a fault's number and its values
abbrev pub pgm_fault_text : PgmFault → List ℕ
pgm_fault_text (BadMagic at) = codes "1 " ++ decimal at
pgm_fault_text (BadHeader at) = codes "2 " ++ decimal at
pgm_fault_text (SizeTooLarge width height) = codes "3 " ++ decimal width ++ 32 ∷ decimal height
pgm_fault_text (Truncated have need) = codes "4 " ++ decimal have ++ 32 ∷ decimal need
pgm_fault_text (BadMaxval maxval) = codes "7 " ++ decimal maxval
