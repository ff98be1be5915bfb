-- What stays the same over a count.
use Rattle.std.specs.Prelude.{◌≡◌, ◌<◌, ◌≤◌, true}
use Rattle.vx_election_model.specs.Valid.{IsValid}
use Rattle.vx_events.specs.Fits.{is_batch}
use Rattle.vx_layout.specs.Plans.{ArePlansOf}
use Rattle.vx_sheet.specs.Shows.{PlansShowOptions}
use Rattle.vx_command_count.specs.declared.setting.Setting.{Setting}

-- the election is valid, its cards are planned so, the batch may be one, and there are 1 to 64 workers
pub record IsSet (setting : Setting) : Type 0 where
  pub valid : IsValid setting.election.now
  pub plans : ArePlansOf setting.election.now setting.plans.now
  pub shown : PlansShowOptions setting.election.now
  pub batch : is_batch setting.batch.now ≡ true
  pub some_worker : 0 < setting.workers
  pub few_workers : setting.workers ≤ 64
