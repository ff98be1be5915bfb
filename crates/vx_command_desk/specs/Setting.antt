-- What stays the same over the sheets of a `desk`.
use Rattle.std.specs.Prelude.{◌≡◌, ℕ, List}
use Rattle.vx_plane.specs.Plane.{Page}
use Rattle.vx_election_model.specs.Valid.{IsValid}
use Rattle.vx_layout.specs.Plans.{ArePlansOf}
use Rattle.vx_command.specs.Acts.{Outcome}
use Rattle.vx_walk.specs.Walk.{SheetStep}
use Rattle.vx_desk.specs.Lines.{sheet_text}
use Rattle.vx_command_desk.specs.declared.setting.Setting.{Setting}
use Rattle.vx_command_desk.specs.Outcome.{closing_text, end_outcome, sheet_step}

-- the election is valid, its cards are planned so, and the history is one of it
pub record IsSet (setting : Setting) : Type 0 where
  pub valid : IsValid setting.election.now
  pub plans : ArePlansOf setting.election.now setting.plans.now
  pub same : setting.center.now.election ≡ setting.election.now

-- the text of a sheet, of a scan with a name
abbrev pub text_in : Setting → List ℕ → ℕ → Page → Page → List ℕ
text_in setting = sheet_text setting.election.now setting.center.now.events setting.batch.now

-- the closing text behind so many sheets
abbrev pub closing_of : Setting → ℕ → List ℕ
closing_of setting = closing_text setting.election.now setting.center.now.events setting.batch.now

-- what a sheet does, of a scan with a name
abbrev pub step_of : Setting → List ℕ → SheetStep
step_of setting = sheet_step setting.election.now setting.center.now.events setting.batch.now

-- what is done at the end of the scans
abbrev pub ending_of : Setting → ℕ → List Page → Outcome
ending_of setting = end_outcome setting.election.now setting.center.now.events setting.batch.now
