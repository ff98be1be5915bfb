-- Why images are no sheet, as a word.
use Rattle.std.specs.Prelude.{ℕ, List, codes}
use Rattle.vx_command.specs.declared.causes.SheetCause.{SheetCause}
use Rattle.vx_command.specs.declared.causes.SheetCause.TheVariants.{Unread, Unpaired, Single}

-- the cause in a word
abbrev pub sheet_text : SheetCause → List ℕ
sheet_text Unread = codes "unread"
sheet_text Unpaired = codes "unpaired"
sheet_text Single = codes "single"
