-- What the threads need that do items.
use Rattle.std.proofs.Common.{◌≡◌, ◌<◌, ◌≤◌, All, List, length, subst, sym}
use Rattle.std.proofs.lemmas.List.Elements.{All-weaker}
use Rattle.atomic_table.specs.Seated.{TableId}
use Rattle.vx_election_model.specs.declared.election.Election.{Election}
use Rattle.vx_election_model.specs.Valid.{IsValid}
use Rattle.vx_layout.specs.Plans.{ArePlansOf, PlansShowEachOption}
use Rattle.vx_shared.specs.Calls.{Known}
use Rattle.vx_shared.specs.Gained.{MayRun}
use Rattle.vx_command_center.specs.declared.hands.Hands.{Hands}
use Rattle.vx_command_center.specs.declared.item.Item.{Item}
use Rattle.vx_command_center.specs.Items.{FitsItem, possible_in_all, possible_of}
use Rattle.vx_command_center.specs.Setting.{IsSet}

set_is : PlansShowEachOption → (hands : Hands) → IsValid hands.election.now → ArePlansOf hands.election.now hands.plans.now → IsSet hands
set_is law hands valid plans = record {
  valid = valid;
  plans = plans;
  shown = λ card plan planned.
      let shows = law hands.election.now card plan valid planned in
      record { options = shows.0; pages = shows.1 };
}

pub may_run : PlansShowEachOption → (hands : Hands) (of : TableId) (pass : Known) (items : List Item)
    → IsValid hands.election.now → ArePlansOf hands.election.now hands.plans.now → pass.of ≡ of → pass.origin.election ≡ hands.election.now
    → 0 < length items → length items ≤ pass.shares → possible_in_all items ≤ pass.calls → All (FitsItem hands.election.now) items
    → MayRun of possible_of (λ (election : Election) (item : Item). IsSet hands × (election ≡ hands.election.now) × FitsItem election item) pass items
may_run law hands of pass items valid plans belongs same some shares calls fits =
    let set : IsSet hands = set_is law hands valid plans in
    let May : Item → Type 0 = λ item. IsSet hands × (pass.origin.election ≡ hands.election.now) × FitsItem pass.origin.election item in
    record {
      belongs = belongs;
      some = some;
      shares = shares;
      enough = calls;
      each = All-weaker (FitsItem hands.election.now) May
          (λ item fit. (set, same, subst (λ (e : Election). FitsItem e item) (sym same) fit)) items fits;
    }
