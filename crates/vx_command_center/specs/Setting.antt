-- Those who do the items of an election's count.
use Rattle.vx_election_model.specs.Valid.{IsValid}
use Rattle.vx_layout.specs.Plans.{ArePlansOf}
use Rattle.vx_sheet.specs.Shows.{PlansShowOptions}
use Rattle.vx_command_center.specs.declared.hands.Hands.{Hands}

-- the election is valid, and its cards are planned so
pub record IsSet (hands : Hands) : Type 0 where
  pub valid : IsValid hands.election.now
  pub plans : ArePlansOf hands.election.now hands.plans.now
  pub shown : PlansShowOptions hands.election.now
