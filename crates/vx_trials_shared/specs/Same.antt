-- Passes, scripts and items of the tests.
use Rattle.std.specs.Prelude.{◌≡◌, ◌≤◌, ℕ, All, List, length}
use Rattle.atomic_table.specs.Seated.{TableId}
use Rattle.vx_command_center.specs.declared.item.Item.{Item}
use Rattle.vx_command_center.specs.Items.{FitsItem, possible_of}
use Rattle.vx_election_model.specs.declared.election.Election.{Election}
use Rattle.vx_events.specs.declared.event.Event.{Event}
use Rattle.vx_events.specs.Fits.{Fits}
use Rattle.vx_shared.specs.Calls.{Known}

-- a pass of the same shared center, with the same shares
abbrev pub IsSame : Known → Known → Type 0
IsSame old now = (now.of ≡ old.of) × (now.origin ≡ old.origin) × (now.shares ≡ old.shares)

-- a pass of this shared center with so many shares, whose election two events fit
abbrev pub MayCall : TableId → ℕ → Event → Event → Known → Type 0
MayCall of shares one other pass =
    (pass.of ≡ of) × (pass.shares ≡ shares) × Fits pass.origin.election one × Fits pass.origin.election other

-- at most so many events that fit an election
abbrev pub IsScript : Election → ℕ → List Event → Type 0
IsScript election most script = (length script ≤ most) × All (Fits election) script

-- so many such scripts
abbrev pub AreScripts : Election → ℕ → ℕ → List (List Event) → Type 0
AreScripts election most count scripts = (length scripts ≡ count) × All (IsScript election most) scripts

-- an item of at most so many events that may be done at a center of an election
abbrev pub IsItem : Election → ℕ → Item → Type 0
IsItem election most item = (possible_of item ≤ most) × FitsItem election item

-- so many such items
abbrev pub AreItems : Election → ℕ → ℕ → List Item → Type 0
AreItems election most count items = (length items ≡ count) × All (IsItem election most) items
