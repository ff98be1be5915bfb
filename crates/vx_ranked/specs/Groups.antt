-- What a group is that was read.
use Rattle.std.specs.Prelude.{◌≡◌, ◌<◌, ◌≤◌, ℕ, List, length, All, Ok}
use Rattle.vx_election_model.specs.declared.election.Election.{Election}
use Rattle.vx_layout.specs.declared.plan.CardPlan.{CardPlan}
use Rattle.vx_ranked.specs.declared.groups.Group.{Group}
use Rattle.vx_ranked.specs.Reading.{groups_in_bytes}
use Rattle.vx_ranked.specs.Texts.{choices_of}

-- it has 1 to 10 contests, the first of which has a candidate
pub record IsGroup (election : Election) (group : Group) : Type 0 where
  pub some : 1 ≤ length group.contests
  pub few : length group.contests ≤ 10
  pub candidates : 0 < length (choices_of election group.contests)

-- each group that bytes give is one
abbrev pub ReadGroupsAreGroups : Type 0
ReadGroupsAreGroups =
    (election : Election) (plans : List CardPlan) (bytes : List ℕ) (groups : List Group)
    → groups_in_bytes election plans bytes ≡ Ok groups → All (IsGroup election) groups
