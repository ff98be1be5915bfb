-- What a pass is seen as, and what a call, a split and a join do to it.
use Rattle.std.specs.Prelude.{◌≡◌, ℕ, ◌+◌, ◌-◌, ◌<◌, ◌≤◌, List, [], ◌∷◌, ◌++◌, Bool, length}
use Rattle.atomic_table.specs.Seated.{TableId}
use Rattle.vx_refusals.specs.declared.reply.Reply.{Reply}
use Rattle.vx_events.specs.declared.event.Event.{Event}
use Rattle.vx_shared.specs.declared.history.Entry.{Entry}
use Rattle.vx_shared.specs.declared.seats.Origin.{Origin}
use Rattle.vx_shared.specs.declared.seats.View.{View}
use Rattle.vx_shared.specs.declared.seats.Role.TheVariants.{Idle}
use Rattle.vx_shared.specs.Legal.{IsLegal, entry}
use Rattle.vx_shared.specs.Marks.{is_marked, marked, either_marked}
use Rattle.vx_shared.specs.Seats.{start_of, spent_view}
use Rattle.vx_shared.specs.Plays.{Sat, IsLonger}

-- a pass: which shared center it belongs to, what that was made from, the history that it has seen,
-- the marks of its own calls in it, and the shares and calls that are left to it
pub record Known : Type 0 where
  pub of : TableId
  pub origin : Origin
  pub seen : List Entry
  pub own : List Bool
  pub shares : ℕ
  pub calls : ℕ

abbrev pub known : TableId → View → Known
known of view = record {
  of = of;
  origin = view.origin;
  seen = view.seen;
  own = view.own;
  shares = view.shares;
  calls = view.calls;
}

-- the view of a pass between two calls
abbrev pub view_of : Known → View
view_of pass = record {
  origin = pass.origin;
  role = Idle;
  seen = pass.seen;
  own = pass.own;
  shares = pass.shares;
  calls = pass.calls;
}

-- the one view among these
abbrev pub the_view : List View → View
the_view [] = spent_view
the_view (view ∷ views) = view

-- what a pass keeps between two calls
pub record IsSeated (view : View) (shares calls seen : ℕ) : Type 0 where
  pub idle : view.role ≡ Idle
  pub some : 0 < shares
  pub parts : view.shares ≡ shares
  pub left : view.calls ≡ calls
  pub long : length view.seen ≡ seen
  pub legal : IsLegal (start_of view.origin) view.seen

pub record IsBadged (views : List View) (shares calls seen : ℕ) : Type 0 where
  pub one : views ≡ the_view views ∷ []
  pub seated : IsSeated (the_view views) shares calls seen

-- a seat has made a call, from ready to ready
pub record HasTurned (before : Sat) (event : Event) (place : ℕ) (reply : Reply) (after : Sat) : Type 0 where
  pub between : List Entry
  pub at : place ≡ length (before.0.seen ++ between)
  pub bound : place < 1000000
  pub fresh : length before.0.own ≤ place
  pub legal : IsLegal (start_of before.0.origin) (before.0.seen ++ between ++ entry event reply ∷ [])
  pub seat : after ≡ (
    record before.0 {
      seen = before.0.seen ++ between ++ entry event reply ∷ [];
      own = marked place before.0.own;
      calls = before.0.calls - 1;
    },
    [],
  )

-- a call that was answered: the history so far, all that the pass had seen and what came between,
-- is legal with the call at its end; the call is the pass's own, and one call is used
pub record HasCalled (old : Known) (event : Event) (place : ℕ) (reply : Reply) (now : Known) : Type 0 where
  pub between : List Entry
  pub at : place ≡ length (old.seen ++ between)
  pub fresh : length old.own ≤ place
  pub legal : IsLegal (start_of old.origin) (old.seen ++ between ++ entry event reply ∷ [])
  pub pass : now ≡ record old {
    seen = old.seen ++ between ++ entry event reply ∷ [];
    own = marked place old.own;
    calls = old.calls - 1;
  }

-- two passes made one: it has seen the longer history, which the other begins; no call was both
-- passes' own, and those of either are its own
pub record HasJoined (keep give now : Known) : Type 0 where
  pub origin : give.origin ≡ keep.origin
  pub seen : List Entry
  pub longer : IsLonger keep.seen give.seen seen
  pub apart : (place : ℕ) → is_marked keep.own place + is_marked give.own place ≤ 1
  pub pass : now ≡ record keep {
    seen = seen;
    own = either_marked keep.own give.own;
    shares = keep.shares + give.shares;
    calls = keep.calls + give.calls;
  }
