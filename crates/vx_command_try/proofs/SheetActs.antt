-- A sheet whose line is written, and images that are none.
use Rattle.std.proofs.Common.{◌≡◌, ◌⊎◌, inl, inr, ℕ, [], ◌∷◌, Ok, Err, None, refl, sym, subst}
use Rattle.vx_rules.specs.declared.marks.SheetMarks.{SheetMarks}
use Rattle.vx_sheet.specs.declared.came.Came.{Came}
use Rattle.vx_command.specs.declared.causes.SheetCause.{SheetCause}
use Rattle.vx_command.specs.declared.halt.Halt.{Halt}
use Rattle.vx_command.specs.declared.halt.Halt.TheVariants.{NoSheet}
use Rattle.vx_command.specs.Acts.{Answer, Outcome, Write, halted, writing}
use Rattle.vx_command.specs.Done.{Taken, BreaksOff, IsDone, IsWhole, IsWritten}
use Rattle.vx_command.specs.Laws.{ActLaws}
use Rattle.vx_command_try.specs.Lines.{cause_of, no_sheet_line, sheet_line}
use Rattle.vx_walk.specs.Steps.{WalksSheet}
use Rattle.vx_command_try.specs.Outcome.{no_sheet, sheet_outcome}

-- a command that halts doesn't answer that it did its work
never-ok : (cause : Halt) (outcome : Outcome) (a b : Taken) → outcome.ends ≡ Err cause → IsWritten outcome a b (Ok tt) → ⊥
never-ok cause outcome a b halts written = by (written None).ends
  where
    by : IsWhole outcome.ends (Ok tt) (written None).left (written None).text (written None).records
        ⊎ BreaksOff (Ok tt) (written None).left (written None).text (written None).records → ⊥
    by (inl whole) = let same = whole.same_answer in cc
    by (inr broke) = broke

module _ (laws : ActLaws) (number : ℕ) (a b : Taken) where
  -- a sheet's line is written, or not whole
  pub sheet-told : (sheet : SheetMarks) (result : Answer) → IsWritten (writing (sheet_line number sheet)) a b result → WalksSheet (sheet_outcome number (Ok sheet)) a b result
  sheet-told sheet (Ok done) written = λ rest held. laws.done (Write (sheet_line number sheet) ∷ []) rest a b held held (written held)
  sheet-told sheet (Err cause) written = λ rest held. laws.broken (Write (sheet_line number sheet) ∷ []) rest a b held held cause (written held)

  -- images that are none end the command
  pub none-told : (came : Came) (result : Answer) → IsWritten (no_sheet number came) a b result → WalksSheet (sheet_outcome number (Err came)) a b result
  none-told came (Ok done) written = absurd (never-ok (NoSheet number (cause_of came)) (no_sheet number came) a b refl written)
  none-told came (Err cause) written = λ rest. written

  -- their line is written
  pub refused : (came : Came) (cause : SheetCause) → cause ≡ cause_of came → IsWritten (writing (no_sheet_line number came)) a b (Ok tt)
      → IsWritten (no_sheet number came) a b (Err (NoSheet number cause))
  refused came cause is written held =
      let Ends : SheetCause → Type 0 = λ some. IsDone (no_sheet number came) a b held held (Err (NoSheet number some)) in
      subst Ends (sym is)
      (laws.done (Write (no_sheet_line number came) ∷ []) (halted (NoSheet number (cause_of came))) a b held held (written held)
      b held (Err (NoSheet number (cause_of came))) (laws.ended (Err (NoSheet number (cause_of came))) b held))

  -- or not whole
  pub not-refused : (came : Came) (cause : Halt) → IsWritten (writing (no_sheet_line number came)) a b (Err cause) → IsWritten (no_sheet number came) a b (Err cause)
  not-refused came cause written held =
      laws.broken (Write (no_sheet_line number came) ∷ []) (halted (NoSheet number (cause_of came))) a b held held cause (written held)
