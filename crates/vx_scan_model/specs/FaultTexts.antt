-- Faults of a page as text: their number, their name, and their values with blanks between.
use Rattle.std.specs.Prelude.{ℕ, List, ◌++◌, ◌∷◌, codes}
use Rattle.std.specs.Fmt.{decimal, signed_decimal}
use Rattle.vx_grid.specs.declared.places.Point.{Point}
use Rattle.vx_grid.specs.declared.side.Side.{Side}
use Rattle.vx_grid.specs.declared.side.Side.TheVariants.{Top, Right, Left, Bottom}
use Rattle.vx_mark_model.specs.declared.fault.BorderFault.{BorderFault}
use Rattle.vx_mark_model.specs.declared.fault.BorderFault.TheVariants.{NoCorner, NoMark, OpenBorder}
use Rattle.vx_code.specs.declared.code.CodeFault.{CodeFault}
use Rattle.vx_code.specs.declared.code.CodeFault.TheVariants.{BadPair, BadVersion}
use Rattle.vx_scan_model.specs.declared.fault.PageFault.{PageFault}
use Rattle.vx_scan_model.specs.declared.fault.PageFault.TheVariants.{FrameSize, Border, Code, OtherElection, NoCard, NoPage, OutOfMemory}

-- a side of the page, in a word
abbrev pub side_name : Side → List ℕ
side_name Top = codes "top"
side_name Right = codes "right"
side_name Left = codes "left"
side_name Bottom = codes "bottom"

-- a place, its column and its row
abbrev pub place_text : Point → List ℕ
place_text p = signed_decimal p.u ++ 32 ∷ signed_decimal p.v

-- a fault of the border: its number, its name and its values
abbrev pub border_text : BorderFault → List ℕ
border_text NoCorner = codes "2.1 NoCorner"
border_text (NoMark side index predicted) =
    codes "2.2 NoMark " ++ side_name side ++ 32 ∷ decimal index ++ 32 ∷ place_text predicted
border_text (OpenBorder predicted found) = codes "2.3 OpenBorder " ++ place_text predicted ++ 32 ∷ place_text found

-- a fault of the code: its number, its name and its values
abbrev pub code_text : CodeFault → List ℕ
code_text (BadPair bit left right) = codes "3.1 BadPair " ++ decimal bit ++ 32 ∷ decimal left ++ 32 ∷ decimal right
code_text (BadVersion version) = codes "3.2 BadVersion " ++ decimal version

-- a fault of a page: its number, its name and its values
abbrev pub fault_text : PageFault → List ℕ
fault_text (FrameSize width height) = codes "1 FrameSize " ++ decimal width ++ 32 ∷ decimal height
fault_text (Border fault) = border_text fault
fault_text (Code fault) = code_text fault
fault_text (OtherElection tag) = codes "4 OtherElection " ++ decimal tag
fault_text (NoCard card) = codes "5 NoCard " ++ decimal card
fault_text (NoPage page) = codes "6 NoPage " ++ decimal page
fault_text OutOfMemory = codes "out of memory"
