-- Faults of an election definition as text: their number, and their values with blanks between.
use Rattle.std.specs.Prelude.{ℕ, List, ◌++◌, ◌∷◌, codes}
use Rattle.std.specs.Fmt.{decimal}
use Rattle.vx_election.specs.declared.fault.ElectionFault.{ElectionFault}
use Rattle.vx_election.specs.declared.fault.ElectionFault.TheVariants.{NotJson, Missing, WrongKind, OutOfRange, RepeatedId, UnknownId, BadThresholds, TooMany, TooManyCards, OutOfMemory}

-- a fault's number and its values
abbrev pub text_of : ElectionFault → List ℕ
text_of NotJson = codes "1"
text_of (Missing path) = codes "2 " ++ path
text_of (WrongKind path) = codes "3 " ++ path
text_of (OutOfRange path) = codes "4 " ++ path
text_of (RepeatedId path id) = codes "5 " ++ path ++ 32 ∷ id
text_of (UnknownId path id) = codes "6 " ++ path ++ 32 ∷ id
text_of (BadThresholds marg def) = codes "7 " ++ decimal marg ++ 32 ∷ decimal def
text_of (TooMany path count) = codes "8 " ++ path ++ 32 ∷ decimal count
text_of (TooManyCards count) = codes "9 " ++ decimal count
text_of OutOfMemory = codes "out of memory"
