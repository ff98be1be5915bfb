-- What each step at the table tells its seat.
use Rattle.std.specs.Prelude.{◌≡◌, ◌≢◌, ℕ, ◌+◌, ◌-◌, ◌<◌, ◌≤◌, List, [], ◌∷◌, ◌++◌, length, Option}
use mathlib.Core.List.{IsPrefix}
use Rattle.atomic_table.specs.Table.{Me, Step}
use Rattle.vx_shared.specs.declared.history.Entry.{Entry}
use Rattle.vx_shared.specs.declared.seats.View.{View}
use Rattle.vx_shared.specs.declared.seats.Role.{Role}
use Rattle.vx_shared.specs.declared.seats.Role.TheVariants.{Idle, Waiting, Turn, Committed, Joined}
use Rattle.vx_shared.specs.Legal.{Stored}
use Rattle.vx_shared.specs.Marks.{is_marked, marked, either_marked}
use Rattle.vx_shared.specs.Seats.{wrapped, number_of, base_of, front_of, fronts, theirs_of, joined_marks, joined_origin, hand_log, hand}

abbrev pub Sat : Type 0
Sat = Me (Option Stored) View

abbrev pub At : Type 0
At = Step (Option Stored)

-- the same view in another role
abbrev pub posed : View → Role → View
posed view role = record view { role = role }

-- between two calls: the seat does nothing, holds nothing and has a share
pub record IsReady (me : Sat) : Type 0 where
  pub idle : me.0.role ≡ Idle
  pub empty : me.1 ≡ []
  pub some : 0 < me.0.shares

-- a number was drawn
pub record Drawn (st : At) (before : Sat) (found : ℕ) (after : Sat) : Type 0 where
  pub number : ℕ
  pub word : found ≡ wrapped number
  pub seat : after ≡ (posed before.0 (Waiting number), before.1)

-- the seat waits with a number, which the word shows so
pub record IsWaiting (me : Sat) (word : ℕ) : Type 0 where
  pub number : ℕ
  pub role : me.0.role ≡ Waiting number
  pub is : word ≡ wrapped number
  pub empty : me.1 ≡ []

-- the seat has the turn, and the slot with the history, which begins with all that it has seen
pub record HasTurn (before after : Sat) : Type 0 where
  pub number : ℕ
  pub base : List Entry
  pub view : after.0 ≡ posed before.0 (Turn number base)
  pub slot : after.1 ≡ hand before.0.origin base
  pub begins : IsPrefix before.0.seen base
  pub marks : length before.0.own ≤ length before.0.seen

-- where the number found is its own, the seat has the turn
pub record Looked (st : At) (before : Sat) (found : ℕ) (after : Sat) : Type 0 where
  pub mine : found ≡ wrapped (number_of before.0.role) → HasTurn before after
  pub others : found ≢ wrapped (number_of before.0.role) → after ≡ before

-- the seat has the turn, and holds a history with one call more than it found
pub record HasWorked (me : Sat) : Type 0 where
  pub role : me.0.role ≡ Turn (number_of me.0.role) (base_of me.0.role)
  pub slot : me.1 ≡ hand me.0.origin (hand_log me.1)
  pub call : Entry
  pub log : hand_log me.1 ≡ base_of me.0.role ++ call ∷ []
  pub left : 0 < me.0.calls

-- the seat has the turn, and holds the history as it leaves it
pub record MayLeave (me : Sat) : Type 0 where
  pub turn : fronts me.0.role ≡ 1
  pub slot : me.1 ≡ hand me.0.origin (front_of me.0.seen me.0.role)

-- a view behind a call at a place
abbrev pub grown : View → List Entry → View
grown view log = record view {
  role = Committed (number_of view.role);
  seen = log;
  own = marked (length (base_of view.role)) view.own;
  calls = view.calls - 1;
}

-- the call stands in the history
pub record IsCounted (before : Sat) (found : ℕ) (after : Sat) : Type 0 where
  pub place : found ≡ length (base_of before.0.role)
  pub bound : found < 1000000
  pub seat : after ≡ (grown before.0 (hand_log before.1), before.1)

abbrev pub Counted : At → Sat → ℕ → Sat → Type 0
Counted st before found after = IsCounted before found after

-- the turn is over
abbrev pub Left : At → Sat → ℕ → Sat → Type 0
Left st before found after = after ≡ (posed before.0 Idle, [])

-- a view that took over another one, which still stands beside it
abbrev pub beside : View → View → View
beside keep give = record {
  origin = keep.origin;
  role = Joined give.seen give.own give.origin;
  seen = keep.seen;
  own = keep.own;
  shares = keep.shares + give.shares;
  calls = keep.calls + give.calls;
}

-- of two histories the one that the other begins
pub data IsLonger (one other : List Entry) : List Entry → Type 0 where
  first : IsPrefix other one → IsLonger one other one
  second : IsPrefix one other → IsLonger one other other

-- two views became one
pub record HasMerged (keep give : View) (now : Sat) : Type 0 where
  pub origin : give.origin ≡ keep.origin
  pub seen : List Entry
  pub longer : IsLonger keep.seen give.seen seen
  pub apart : (place : ℕ) → is_marked keep.own place + is_marked give.own place ≤ 1
  pub shares : keep.shares + give.shares ≤ 64
  pub calls : keep.calls + give.calls ≤ 1000000
  pub seat : now ≡ (
    record keep {
      seen = seen;
      own = either_marked keep.own give.own;
      shares = keep.shares + give.shares;
      calls = keep.calls + give.calls;
    },
    [],
  )

-- the view and the one that it took over are one
pub record IsMerged (before : Sat) (after : Sat) : Type 0 where
  pub seen : List Entry
  pub longer : IsLonger before.0.seen (theirs_of before.0.role) seen
  pub apart : (place : ℕ) → is_marked before.0.own place + is_marked (joined_marks before.0.role) place ≤ 1
  pub origin : joined_origin before.0.origin before.0.role ≡ before.0.origin
  pub shares : before.0.shares ≤ 64
  pub calls : before.0.calls ≤ 1000000
  pub seat : after ≡ (
    record before.0 {
      role = Idle;
      seen = seen;
      own = either_marked before.0.own (joined_marks before.0.role);
    },
    before.1,
  )

abbrev pub Merged : At → Sat → ℕ → Sat → Type 0
Merged st before found after = IsMerged before after

-- what is left of a view of which so many shares and calls were cut off
abbrev pub kept_part : ℕ → ℕ → View → View
kept_part shares calls view = record view { shares = view.shares - shares; calls = view.calls - calls }

-- what was cut off: it has seen the same, and has no own calls
abbrev pub cut_part : ℕ → ℕ → View → View
cut_part shares calls view = record view { role = Idle; own = []; shares = shares; calls = calls }
