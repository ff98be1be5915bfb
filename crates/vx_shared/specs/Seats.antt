-- What the seats at the table know, counted over all of them.
use Rattle.std.specs.Prelude.{ℕ, zero, suc, ◌+◌, ◌%◌, Bool, List, [], ◌∷◌, Option, Some, None}
use Rattle.vx_grid.specs.declared.paper.Paper.TheVariants.{Letter}
use Rattle.vx_election_model.specs.declared.election.Election.{Election}
use Rattle.vx_center.specs.Kept.{Kept}
use Rattle.vx_shared.specs.declared.history.Entry.{Entry}
use Rattle.vx_shared.specs.declared.seats.Origin.{Origin}
use Rattle.vx_shared.specs.declared.seats.View.{View}
use Rattle.vx_shared.specs.declared.seats.Role.{Role}
use Rattle.vx_shared.specs.declared.seats.Role.TheVariants.{Idle, Waiting, Turn, Committed, Joined}
use Rattle.vx_shared.specs.Legal.{Stored, stored}
use Rattle.vx_shared.specs.Marks.{is_marked}

-- a number as a word holds it
abbrev pub wrapped : ℕ → ℕ
wrapped number = number % 18446744073709551616

-- the machine before the first call
abbrev pub start_of : Origin → Kept
start_of origin = record { election = origin.election; events = origin.kept }

-- what `new` was given
abbrev pub origin_of : Kept → ℕ → ℕ → Origin
origin_of start shares calls =
    record { election = start.election; kept = start.events; shares = shares; calls = calls }

-- the view of the first seat
abbrev pub first_view : Origin → View
first_view origin =
    record { origin = origin; role = Idle; seen = []; own = []; shares = origin.shares; calls = origin.calls }

-- what stands where there is no election
abbrev pub no_election : Election
no_election = record {
  title = [];
  date = [];
  parties = [];
  districts = [];
  precincts = [];
  contests = [];
  styles = [];
  thresholds = record { marg = 0; def = 0 };
  reasons = [];
  paper = Letter;
  digest = [];
}

-- the view of a seat that another took over: it has no share, and its origin counts for nothing
abbrev pub spent_view : View
spent_view = record {
  origin = record { election = no_election; kept = []; shares = 0; calls = 0 };
  role = Idle;
  seen = [];
  own = [];
  shares = 0;
  calls = 0;
}

-- 1 for a role that stands in the line, else 0
abbrev pub stands : Role → ℕ
stands Idle = 0
stands (Waiting number) = 1
stands (Turn number base) = 1
stands (Committed number) = 1
stands (Joined theirs own from) = 0

-- 1 for a role that has the turn, else 0
abbrev pub fronts : Role → ℕ
fronts Idle = 0
fronts (Waiting number) = 0
fronts (Turn number base) = 1
fronts (Committed number) = 1
fronts (Joined theirs own from) = 0

-- the number of a role that stands in the line
abbrev pub number_of : Role → ℕ
number_of Idle = 0
number_of (Waiting number) = number
number_of (Turn number base) = number
number_of (Committed number) = number
number_of (Joined theirs own from) = 0

-- the history that a seat found with its turn
abbrev pub base_of : Role → List Entry
base_of Idle = []
base_of (Waiting number) = []
base_of (Turn number base) = base
base_of (Committed number) = []
base_of (Joined theirs own from) = []

-- the history as a seat that has the turn leaves it
abbrev pub front_of : List Entry → Role → List Entry
front_of seen Idle = []
front_of seen (Waiting number) = []
front_of seen (Turn number base) = base
front_of seen (Committed number) = seen
front_of seen (Joined theirs own from) = []

-- what a seat that was taken over had seen
abbrev pub theirs_of : Role → List Entry
theirs_of Idle = []
theirs_of (Waiting number) = []
theirs_of (Turn number base) = []
theirs_of (Committed number) = []
theirs_of (Joined theirs own from) = theirs

-- the marks of the own calls of a seat that was taken over
abbrev pub joined_marks : Role → List Bool
joined_marks Idle = []
joined_marks (Waiting number) = []
joined_marks (Turn number base) = []
joined_marks (Committed number) = []
joined_marks (Joined theirs own from) = own

-- the origin of a seat that was taken over
abbrev pub joined_origin : Origin → Role → Origin
joined_origin origin Idle = origin
joined_origin origin (Waiting number) = origin
joined_origin origin (Turn number base) = origin
joined_origin origin (Committed number) = origin
joined_origin origin (Joined theirs own from) = from

abbrev pub stands_in : View → ℕ
stands_in view = stands view.role

abbrev pub fronts_in : View → ℕ
fronts_in view = fronts view.role

abbrev pub shares_of : View → ℕ
shares_of view = view.shares

abbrev pub calls_of : View → ℕ
calls_of view = view.calls

-- how often a place is marked as a seat's own
abbrev pub made_at : ℕ → View → ℕ
made_at place view = is_marked view.own place + is_marked (joined_marks view.role) place

-- added up over the views
abbrev pub total : (View → ℕ) → List View → ℕ
total weight [] = 0
total weight (view ∷ views) = weight view + total weight views

-- 1 for a number below so much, which comes first, else 0
abbrev pub one_below : ℕ → ℕ → ℕ
one_below zero place = 0
one_below (suc count) zero = 1
one_below (suc count) (suc place) = one_below count place

-- a slot that is seen as this value
abbrev pub slot : Origin → List Entry → Option Stored
slot origin log = Some (stored (start_of origin) log)

-- the history in the slot that was taken last
abbrev pub slot_log : Option Stored → List Entry
slot_log None = []
slot_log (Some value) = value.history

abbrev pub hand_log : List (ℕ × Option Stored) → List Entry
hand_log [] = []
hand_log (held ∷ others) = slot_log held.1

-- the seat has the one slot, with this history
abbrev pub hand : Origin → List Entry → List (ℕ × Option Stored)
hand origin log = (0, slot origin log) ∷ []
