-- Faults of a layout as text: their number, and their values with blanks between.
use Rattle.std.specs.Prelude.{ℕ, List, ◌++◌, ◌∷◌, codes}
use Rattle.std.specs.Fmt.{decimal}
use Rattle.vx_layout.specs.declared.fault.LayoutFault.{LayoutFault}
use Rattle.vx_layout.specs.declared.fault.LayoutFault.TheVariants.{ContestTooTall, TextTooLong, TooManyPages, NoCard, OutOfMemory}

-- a fault's number and its values
abbrev pub layout_fault_text : LayoutFault → List ℕ
layout_fault_text (ContestTooTall id rows) = codes "1 " ++ id ++ 32 ∷ decimal rows
layout_fault_text (TextTooLong id size) = codes "2 " ++ id ++ 32 ∷ decimal size
layout_fault_text (TooManyPages count) = codes "3 " ++ decimal count
layout_fault_text (NoCard cards) = codes "4 " ++ decimal cards
layout_fault_text OutOfMemory = codes "out of memory"
