-- Faults of a sheet as text: their number, their name, and their values with blanks between.
use Rattle.std.specs.Prelude.{ℕ, List, ◌++◌, ◌∷◌, codes}
use Rattle.std.specs.Fmt.{decimal}
use Rattle.vx_grid.specs.Kinds.{kind_word}
use Rattle.vx_sheet.specs.declared.fault.SheetFault.{SheetFault}
use Rattle.vx_sheet.specs.declared.fault.SheetFault.TheVariants.{CardsDiffer, PagesNotFacing, KindsDiffer, OutOfMemory}

-- a fault of a sheet: its number, its name and its values
abbrev pub fault_text : SheetFault → List ℕ
fault_text (CardsDiffer first second) = codes "1 CardsDiffer " ++ decimal first ++ 32 ∷ decimal second
fault_text (PagesNotFacing first second) = codes "2 PagesNotFacing " ++ decimal first ++ 32 ∷ decimal second
fault_text (KindsDiffer first second) =
    codes "3 KindsDiffer " ++ kind_word first.kind first.test ++ 32 ∷ kind_word second.kind second.test
fault_text OutOfMemory = codes "out of memory"
