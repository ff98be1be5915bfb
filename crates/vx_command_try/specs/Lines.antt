-- The lines that `try` writes, and the cause with which it ends at the first images that are no sheet.
use Rattle.std.specs.Prelude.{ℕ, ◌+◌, ◌*◌, List, [], ◌∷◌, ◌++◌, codes}
use Rattle.std.specs.Fmt.{decimal}
use Rattle.vx_rules.specs.declared.marks.SheetMarks.{SheetMarks}
use Rattle.vx_sheet.specs.declared.came.Came.{Came}
use Rattle.vx_sheet.specs.declared.came.Came.TheVariants.{Unread, Unpaired, Single}
use Rattle.vx_sheet.specs.Lines.{came_words, line_of}
use Rattle.vx_command.specs.declared.causes.SheetCause.{SheetCause}
use Rattle.vx_command.specs.declared.causes.SheetCause.TheVariants as cause

-- `sheet N card C pages P Q`
unfoldable pub sheet_line : ℕ → SheetMarks → List ℕ
sheet_line number sheet =
    line_of (codes "sheet")
    (decimal number ∷ codes "card" ∷ decimal sheet.card ∷ codes "pages" ∷ decimal sheet.front ∷ decimal (sheet.front + 1) ∷ [])

-- why images are no sheet, in the words of `count`: the first of two that can't be read, two that don't pair, one without a
-- second
abbrev pub none_words : Came → List (List ℕ)
none_words (Unread image fault) = came_words (Unread image fault)
none_words (Unpaired fault) = came_words (Unpaired fault)
none_words came = came_words Single

-- `sheet N` and these words
unfoldable pub no_sheet_line : ℕ → Came → List ℕ
no_sheet_line number came = line_of (codes "sheet") (decimal number ∷ none_words came)

-- `tried N sheets M images`
unfoldable pub tried_line : ℕ → List ℕ
tried_line sheets =
    line_of (codes "tried") (decimal sheets ∷ codes "sheets" ∷ decimal (2 * sheets) ∷ codes "images" ∷ [])

-- the same as the cause with which the command ends
abbrev pub cause_of : Came → SheetCause
cause_of (Unread image fault) = cause.Unread
cause_of (Unpaired fault) = cause.Unpaired
cause_of came = cause.Single
