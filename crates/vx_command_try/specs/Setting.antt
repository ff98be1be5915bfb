-- What stays the same over a `try`, and what it does of a sheet and at the end.
use Rattle.std.specs.Prelude.{ℕ, List}
use Rattle.vx_plane.specs.Plane.{Page}
use Rattle.vx_election_model.specs.Valid.{IsValid}
use Rattle.vx_layout.specs.Plans.{ArePlansOf}
use Rattle.vx_sheet.specs.Shows.{PlansShowOptions}
use Rattle.vx_command.specs.Acts.{Outcome}
use Rattle.vx_walk.specs.Walk.{SheetStep}
use Rattle.vx_command_try.specs.declared.setting.Setting.{Setting}
use Rattle.vx_command_try.specs.Outcome.{end_outcome, sheet_step}

-- the election is valid, and its cards are planned so
pub record IsSet (setting : Setting) : Type 0 where
  pub valid : IsValid setting.election.now
  pub plans : ArePlansOf setting.election.now setting.plans.now
  pub shown : PlansShowOptions setting.election.now

-- what a sheet does, of a scan with whatever name
abbrev pub step_of : Setting → List ℕ → SheetStep
step_of setting scan = sheet_step setting.election.now

-- what is done at the end of the scans
abbrev pub ending_of : Setting → ℕ → List Page → Outcome
ending_of setting = end_outcome
