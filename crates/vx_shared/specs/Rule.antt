-- The rule of the table: what holds of its words, its slot and its seats between any two steps.
use Rattle.std.specs.Prelude.{◌≡◌, ◌≢◌, ℕ, ◌+◌, ◌<◌, ◌≤◌, List, [], ◌∷◌, length, Option}
use mathlib.Core.Option.{none, some}
use mathlib.Core.List.{IsPrefix}
use lib.ListN.{get_elem?}
use Rattle.atomic_table.specs.Table.{State}
use Rattle.atomic_table.specs.Seated.{TableId}
use Rattle.vx_shared.specs.declared.history.Entry.{Entry}
use Rattle.vx_shared.specs.declared.seats.Origin.{Origin}
use Rattle.vx_shared.specs.declared.seats.View.{View}
use Rattle.vx_shared.specs.declared.seats.Role.{Role}
use Rattle.vx_shared.specs.declared.seats.Role.TheVariants.{Idle, Waiting, Turn, Committed, Joined}
use Rattle.vx_shared.specs.Legal.{Stored}
use Rattle.vx_shared.specs.Seats.{wrapped, stands_in, fronts_in, shares_of, calls_of, made_at, total, one_below, slot}

-- a table of three words and one slot
abbrev pub IsBoard : TableId → Type 0
IsBoard board = (board.words ≡ 3) × (board.slots ≡ 1)

-- the role stands in the line with this number
abbrev pub StandsAt : Role → ℕ → Type 0
StandsAt Idle n = ⊥
StandsAt (Waiting number) n = number ≡ n
StandsAt (Turn number base) n = number ≡ n
StandsAt (Committed number) n = number ≡ n
StandsAt (Joined theirs own from) n = ⊥

-- what a role says of the line and of the history
abbrev pub RoleAgrees : Origin → List Entry → ℕ → ℕ → List Entry → Role → Type 0
RoleAgrees origin log serving ticket seen Idle = Unit {0}
RoleAgrees origin log serving ticket seen (Waiting number) = (serving ≤ number) × (number < ticket)
RoleAgrees origin log serving ticket seen (Turn number base) = (number ≡ serving) × (number < ticket) × (base ≡ log)
RoleAgrees origin log serving ticket seen (Committed number) = (number ≡ serving) × (number < ticket) × (seen ≡ log)
RoleAgrees origin log serving ticket seen (Joined theirs own from) =
    IsPrefix theirs log × (length own ≤ length theirs) × (from ≡ origin)

-- what holds of each seat
pub record Agrees (origin : Origin) (log : List Entry) (serving ticket : ℕ) (view : View) : Type 0 where
  pub live : 0 < view.shares → view.origin ≡ origin
  pub spent : view.shares ≡ 0 → (view.role ≡ Idle) × (view.calls ≡ 0) × (view.own ≡ [])
  pub begins : IsPrefix view.seen log
  pub marks : length view.own ≤ length view.seen
  pub does : RoleAgrees origin log serving ticket view.seen view.role

-- between any two steps: the history, the number whose turn it is and the number that is drawn next
pub record Ruled (s : State (Option Stored) View) : Type 0 where
  pub origin : Origin
  pub log : List Entry
  pub serving : ℕ
  pub ticket : ℕ
  pub words : s.words ≡ wrapped ticket ∷ wrapped serving ∷ length log ∷ []
  pub line : serving + total stands_in s.views ≡ ticket
  pub each : (seat : ℕ) (view : View) → get_elem? s.views seat ≡ some view → Agrees origin log serving ticket view
  pub apart : (one other : ℕ) (v w : View) (n : ℕ) → get_elem? s.views one ≡ some v → get_elem? s.views other ≡ some w
      → StandsAt v.role n → StandsAt w.role n → one ≡ other
  pub shares : total shares_of s.views ≡ origin.shares
  pub few : origin.shares ≤ 64
  pub calls : total calls_of s.views + length log ≡ origin.calls
  pub bounded : origin.calls ≤ 1000000
  pub places : (place : ℕ) → total (made_at place) s.views ≡ one_below (length log) place
  pub home : total fronts_in s.views ≡ 0 → s.homes ≡ some (slot origin log) ∷ []
  pub away : total fronts_in s.views ≢ 0 → s.homes ≡ none ∷ []
