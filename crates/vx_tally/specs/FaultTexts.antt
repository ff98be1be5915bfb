-- Faults of a report as text: their number, and their values with blanks between.
use Rattle.std.specs.Prelude.{ℕ, List, ◌++◌, ◌∷◌, codes}
use Rattle.vx_tally.specs.declared.fault.ReportFault.{ReportFault}
use Rattle.vx_tally.specs.declared.fault.ReportFault.TheVariants.{NotJson, Missing, WrongKind, OutOfRange, RepeatedId, UnknownId, OutOfMemory}

-- a fault's number and its values
abbrev pub text_of : ReportFault → List ℕ
text_of NotJson = codes "1"
text_of (Missing path) = codes "2 " ++ path
text_of (WrongKind path) = codes "3 " ++ path
text_of (OutOfRange path) = codes "4 " ++ path
text_of (RepeatedId path id) = codes "5 " ++ path ++ 32 ∷ id
text_of (UnknownId path id) = codes "6 " ++ path ++ 32 ∷ id
text_of OutOfMemory = codes "out of memory"
