-- What stays the same over a `try` of planned cards.
use Rattle.vx_election_model.specs.Valid.{IsValid}
use Rattle.vx_layout.specs.Plans.{ArePlansOf, PlansShowEachOption}
use Rattle.vx_command_try.specs.declared.setting.Setting.{Setting}
use Rattle.vx_command_try.specs.Setting.{IsSet}

pub set-is : PlansShowEachOption → (setting : Setting) → IsValid setting.election.now → ArePlansOf setting.election.now setting.plans.now → IsSet setting
set-is law setting valid plans = record {
  valid = valid;
  plans = plans;
  shown = λ card plan planned.
      let shows = law setting.election.now card plan valid planned in
      record { options = shows.0; pages = shows.1 };
}
