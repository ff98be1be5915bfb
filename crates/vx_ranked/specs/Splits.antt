-- Cards that have the contests of a group on more than one sheet.
use Rattle.std.specs.Prelude.{ℕ, ◌-◌, ◌/◌, ◌&&◌, ◌==◌, Bool, false, not, List, [], ◌∷◌, find, if◌then◌else◌, Result, Ok, Err}
use Rattle.std.specs.List.{list_any}
use Rattle.std.specs.Option.{option_map_or}
use Rattle.vx_base.specs.Results.{◌>>=◌}
use Rattle.vx_layout.specs.declared.bubbles.Bubble.{Bubble}
use Rattle.vx_layout.specs.declared.pages.PagePlan.{PagePlan}
use Rattle.vx_layout.specs.declared.plan.CardPlan.{CardPlan}
use Rattle.vx_ranked.specs.declared.fault.RankedFault.{RankedFault}
use Rattle.vx_ranked.specs.declared.fault.RankedFault.TheVariants.{Split}
use Rattle.vx_ranked.specs.declared.groups.Group.{Group}
use Rattle.vx_ranked.specs.Members.{is_among}

-- the sheet that a page stands on, from 0: pages 1 and 2 are those of the first
abbrev pub sheet_of : PagePlan → ℕ
sheet_of page = (page.page - 1) / 2

-- a contest of a group stands on a page
abbrev pub shows_group : List ℕ → PagePlan → Bool
shows_group contests page = list_any (λ (bubble : Bubble). is_among bubble.contest contests) page.bubbles

-- a contest of a group stands on a page of another sheet
abbrev pub shows_elsewhere : List ℕ → ℕ → PagePlan → Bool
shows_elsewhere contests sheet page = shows_group contests page && not (sheet_of page == sheet)

-- contests of a group stand on the pages of more than one sheet: on another than the first that shows one
abbrev pub is_split : List ℕ → List PagePlan → Bool
is_split contests pages =
    option_map_or (λ first. list_any (shows_elsewhere contests (sheet_of first)) pages) (find (shows_group contests) pages) false

-- a card that splits none of the groups, or the first that it splits
abbrev pub card_checked : CardPlan → List Group → Result (Unit {0}) RankedFault
card_checked plan [] = Ok tt
card_checked plan (group ∷ groups) =
    if is_split group.contests plan.pages then Err (Split plan.card group.id) else card_checked plan groups

-- cards that split none of the groups, or the first that splits one
abbrev pub cards_checked : List Group → List CardPlan → Result (Unit {0}) RankedFault
cards_checked groups [] = Ok tt
cards_checked groups (plan ∷ plans) = card_checked plan groups >>= (λ _. cards_checked groups plans)
