-- Faults of a file of ranked contests as text: their number, and their values with blanks between.
use Rattle.std.specs.Prelude.{ℕ, List, ◌++◌, ◌∷◌, codes, decimal}
use Rattle.vx_ranked.specs.declared.fault.RankedFault.{RankedFault}
use Rattle.vx_ranked.specs.declared.fault.RankedFault.TheVariants.{NotJson, Missing, WrongKind, OutOfRange, RepeatedId, UnknownId, Unlike, Split, OutOfMemory}

-- a fault's number and its values
abbrev pub text_of : RankedFault → List ℕ
text_of NotJson = codes "1"
text_of (Missing path) = codes "2 " ++ path
text_of (WrongKind path) = codes "3 " ++ path
text_of (OutOfRange path) = codes "4 " ++ path
text_of (RepeatedId path id) = codes "5 " ++ path ++ 32 ∷ id
text_of (UnknownId path id) = codes "6 " ++ path ++ 32 ∷ id
text_of (Unlike path) = codes "7 " ++ path
text_of (Split card id) = codes "8 " ++ decimal card ++ 32 ∷ id
text_of OutOfMemory = codes "out of memory"
