-- What stays the same over a count of planned cards.
use Rattle.std.proofs.Common.{◌≡◌, ◌<◌, ◌≤◌, true}
use Rattle.vx_election_model.specs.Valid.{IsValid}
use Rattle.vx_events.specs.Fits.{is_batch}
use Rattle.vx_layout.specs.Plans.{ArePlansOf, PlansShowEachOption}
use Rattle.vx_command_count.specs.declared.setting.Setting.{Setting}
use Rattle.vx_command_count.specs.Setting.{IsSet}

pub set-is : PlansShowEachOption → (setting : Setting) → IsValid setting.election.now → ArePlansOf setting.election.now setting.plans.now → is_batch setting.batch.now ≡ true → 0 < setting.workers → setting.workers ≤ 64 → IsSet setting
set-is law setting valid plans batch some few = record {
  valid = valid;
  plans = plans;
  shown = λ card plan planned.
      let shows = law setting.election.now card plan valid planned in
      record { options = shows.0; pages = shows.1 };
  batch = batch;
  some_worker = some;
  few_workers = few;
}
