-- What a pass gained while events were made with it: the places of calls that came to be its own, and the events there.
use Rattle.std.specs.Prelude.{◌≡◌, ℕ, ◌+◌, ◌<◌, ◌≤◌, if◌then◌else◌, All, Bool, List, [], ◌∷◌, ◌++◌, length, map, sum, Result, IfOk, OnErr}
use Rattle.std.specs.List.{flat_map}
use Rattle.std.specs.declared.alloc.AllocError.{AllocError}
use mathlib.Core.List.{IsPrefix}
use Rattle.atomic_table.specs.Seated.{TableId}
use Rattle.vx_election_model.specs.declared.election.Election.{Election}
use Rattle.vx_events.specs.declared.event.Event.{Event}
use Rattle.vx_shared.specs.declared.history.Entry.{Entry}
use Rattle.vx_shared.specs.Calls.{Known}
use Rattle.vx_shared.specs.Interleaving.{Interleaving, AreFronts}
use Rattle.vx_shared.specs.Marks.{is_marked, either_marked}

-- the events of a history at the marked places, in order
abbrev pub events_at : List Bool → List Entry → List Event
events_at [] history = []
events_at (mark ∷ marks) [] = []
events_at (mark ∷ marks) (call ∷ history) = if mark then call.event ∷ events_at marks history else events_at marks history

-- a pass has gained the marked places: none of them was its own before, all its own are those that were and these, and
-- it used a call for each; it has seen all that it had seen, and has the same shares
pub record HasGained (old : Known) (marks : List Bool) (now : Known) : Type 0 where
  pub of : now.of ≡ old.of
  pub origin : now.origin ≡ old.origin
  pub shares : now.shares ≡ old.shares
  pub begins : IsPrefix old.seen now.seen
  pub long : length marks ≤ length now.seen
  pub apart : (place : ℕ) → is_marked old.own place + is_marked marks place ≤ 1
  pub own : now.own ≡ either_marked old.own marks
  pub calls : now.calls + length (events_at marks now.seen) ≡ old.calls

-- the events at the places that a pass gained are these
pub record HasMade (old : Known) (events : List Event) (now : Known) : Type 0 where
  pub marks : List Bool
  pub gained : HasGained old marks now
  pub made : events_at marks now.seen ≡ events

-- events were made with a pass, behind whatever was made with it before
pub record MakesAlso (before : Known) (events : List Event) (now : Known) : Type 0 where
  pub behind : (old : Known) (front : List Event) → HasMade old front before → HasMade old (front ++ events) now

-- they are those at a front of the list
pub record HasMadeFront (old : Known) (events : List Event) (now : Known) : Type 0 where
  pub front : List Event
  pub begins : IsPrefix front events
  pub made : HasMade old front now

-- the events at the places that a pass gained interleave the lists
pub record HasRun (old : Known) (lists : List (List Event)) (now : Known) : Type 0 where
  pub marks : List Bool
  pub gained : HasGained old marks now
  pub mixed : Interleaving lists (events_at marks now.seen)

-- they interleave fronts of the lists
pub record HasRunFronts (old : Known) (lists : List (List Event)) (now : Known) : Type 0 where
  pub fronts : List (List Event)
  pub begins : AreFronts fronts lists
  pub run : HasRun old fronts now

-- all events of the lists were made and the text was answered, or fronts of them were made where there was no memory
pub record HasEnded (old : Known) (lists : List (List Event)) (text : List ℕ) (now : Known) (answer : Result (List ℕ) AllocError) : Type 0 where
  pub run : IfOk answer (λ told. HasRun old lists now × (told ≡ text))
  pub fronts : OnErr answer (HasRunFronts old lists now)

-- so of items: the events of each interleave, and their texts stand one after another
abbrev pub HasDone : {T : Type 0} → Known → (T → List Event) → (T → List ℕ) → List T → Known → Result (List ℕ) AllocError → Type 0
HasDone old events text items now answer = HasEnded old (map events items) (flat_map text items) now answer

-- how many calls items may need, each so many
abbrev pub calls_in : {T : Type 0} → (T → ℕ) → List T → ℕ
calls_in calls items = sum (map calls items)

-- a pass of this shared center with a share for each item, so many calls as they may need, and an election at which each of
-- them may be done
pub record MayRun {T : Type 0} (of : TableId) (calls : T → ℕ) (may : Election → T → Type 0) (pass : Known) (items : List T) : Type 0 where
  pub belongs : pass.of ≡ of
  pub some : 0 < length items
  pub shares : length items ≤ pass.shares
  pub enough : calls_in calls items ≤ pass.calls
  pub each : All (may pass.origin.election) items
