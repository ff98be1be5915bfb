-- What is answered to an event, and which events are kept then. This project's own rules.
use Rattle.std.specs.Prelude.{ℕ, ◌+◌, ◌&&◌, ◌==◌, Bool, true, false, if◌then◌else◌, List, [], ◌∷◌, ◌++◌, length, find, nat_eq, nat_lt, nat_le, slice_get, Option, Some, None}
use Rattle.std.specs.List.{list_any}
use Rattle.vx_grid.specs.declared.state.State.{State}
use Rattle.vx_election_model.specs.declared.contest.Contest.{Contest}
use Rattle.vx_election_model.specs.declared.election.Election.{Election}
use Rattle.vx_election_model.specs.Options.{options_of}
use Rattle.vx_rules.specs.declared.marks.ContestMarks.{ContestMarks}
use Rattle.vx_rules.specs.declared.marks.SheetMarks.{SheetMarks}
use Rattle.vx_rules.specs.Reasons.{is_marginal}
use Rattle.vx_events.specs.declared.decision.Decision.{Decision}
use Rattle.vx_events.specs.declared.decision.Decision.TheVariants.{Selections, RuledOvervote, AcceptRead, NameWriteIn}
use Rattle.vx_events.specs.declared.decision.WriteInName.{WriteInName}
use Rattle.vx_events.specs.declared.decision.WriteInName.TheVariants.{Words, Candidate}
use Rattle.vx_events.specs.declared.event.Event.{Event}
use Rattle.vx_events.specs.declared.event.Event.TheVariants.{Add, Claim, Release, Decide}
use Rattle.vx_events.specs.declared.key.Key.{Key}
use Rattle.vx_refusals.specs.declared.reply.Reply.{Reply}
use Rattle.vx_refusals.specs.declared.reply.Reply.TheVariants.{Done, Repeated, NoSheet, HeldBy, NotHeld, NotOnSheet, NotAnOption, OverSeats, StillMarginal, NoWriteIn, Full}
use Rattle.vx_center.specs.Sheets.{place_in, sheet_in, marks_on}
use Rattle.vx_center.specs.Holders.{holder_of}
use Rattle.vx_center.specs.Decisions.{decisions_of, ruling_of}
use Rattle.vx_center.specs.Finals.{options_from, selected_by, slots_of}

-- so many events are kept at most
unfoldable pub event_limit : ℕ
event_limit = 1000000

-- an Add is refused where a sheet with its key was added, with that sheet's place
abbrev pub add_reply : Option ℕ → Reply
add_reply None = Done
add_reply (Some place) = Repeated place

-- a Claim is refused where another station holds the sheet
abbrev pub claim_reply : ℕ → Option ℕ → Reply
claim_reply station None = Done
claim_reply station (Some holder) = if holder == station then Done else HeldBy holder

-- a Release or a decision is refused unless its station holds the sheet
abbrev pub if_held : ℕ → Option ℕ → Reply → Reply
if_held station None reply = NotHeld
if_held station (Some holder) reply = if holder == station then reply else HeldBy holder

-- whatever is asked of a sheet is refused where it wasn't added
abbrev pub on_sheet : Option SheetMarks → (SheetMarks → Reply) → Reply
on_sheet None reply = NoSheet
on_sheet (Some sheet) reply = reply sheet

-- selections are refused where the least option is none of the contest's, or more are given than
-- there are seats
abbrev pub selections_reply : Contest → List ℕ → Option ℕ → Reply
selections_reply contest options (Some other) = NotAnOption other
selections_reply contest options None =
    if nat_le (length options) contest.seats then Done else OverSeats (length options) contest.seats

-- the first number of a list, if there is one
abbrev pub first_of : List ℕ → Option ℕ
first_of [] = None
first_of (number ∷ numbers) = Some number

-- what counts as read is refused while an option is marginal, with the least such option
abbrev pub unless_marginal : Option ℕ → Reply → Reply
unless_marginal None reply = reply
unless_marginal (Some option) reply = StillMarginal option

-- the least option that was read as marginal
abbrev pub least_marginal : List State → Option ℕ
least_marginal states = first_of (options_from is_marginal 0 states)

-- a candidate's number is refused where the contest has none such
abbrev pub name_reply : Contest → WriteInName → Reply
name_reply contest (Words words) = Done
name_reply contest (Candidate number) = if nat_lt number (length contest.choices) then Done else NotAnOption number

-- whether a contest has a write-in slot, and it is among those selected
abbrev pub has_slot : Contest → List ℕ → ℕ → Bool
has_slot contest selected slot =
    nat_lt slot (slots_of contest) && list_any (nat_eq (length contest.choices + slot)) selected

-- a name is refused where there is no such slot or it isn't selected
abbrev pub slot_reply : Contest → List ℕ → ℕ → WriteInName → Reply
slot_reply contest selected slot name =
    if has_slot contest selected slot then name_reply contest name else NoWriteIn slot

-- a name is refused while the contest isn't ruled and an option is marginal
abbrev pub naming_reply : Contest → List State → Option Decision → ℕ → WriteInName → Reply
naming_reply contest states None slot name =
    unless_marginal (least_marginal states) (slot_reply contest (selected_by states None) slot name)
naming_reply contest states (Some ruling) slot name = slot_reply contest (selected_by states (Some ruling)) slot name

-- a decision of a contest that was read so and was last ruled so
abbrev pub decision_reply : Contest → List State → Option Decision → Decision → Reply
decision_reply contest states ruling (Selections options) =
    selections_reply contest options (find (nat_le (options_of contest)) options)
decision_reply contest states ruling RuledOvervote = Done
decision_reply contest states ruling AcceptRead = unless_marginal (least_marginal states) Done
decision_reply contest states ruling (NameWriteIn slot name) = naming_reply contest states ruling slot name

-- a decision is refused where the sheet hasn't its contest
abbrev pub on_contest : ℕ → Option Contest → Option ContestMarks → (Contest → ContestMarks → Reply) → Reply
on_contest number None marks reply = NotOnSheet number
on_contest number (Some contest) None reply = NotOnSheet number
on_contest number (Some contest) (Some marks) reply = reply contest marks

-- a decision of a contest of a sheet, of which these were taken before, by the station that holds it
abbrev pub decide_reply : Election → List Decision → ℕ → Decision → SheetMarks → Reply
decide_reply election decisions number decision sheet =
    on_contest number (slice_get election.contests number) (marks_on sheet number)
    (λ contest marks. decision_reply contest marks.states (ruling_of decisions) decision)

-- what is answered where there is room for an event
abbrev pub reply_with_room : Election → List Event → Event → Reply
reply_with_room election kept (Add key sheet) = add_reply (place_in kept key)
reply_with_room election kept (Claim station key) =
    on_sheet (sheet_in kept key) (λ sheet. claim_reply station (holder_of kept key))
reply_with_room election kept (Release station key) =
    on_sheet (sheet_in kept key) (λ sheet. if_held station (holder_of kept key) Done)
reply_with_room election kept (Decide station key contest decision) =
    on_sheet (sheet_in kept key)
    (λ sheet. if_held station (holder_of kept key)
    (decide_reply election (decisions_of kept key contest) contest decision sheet))

-- what is answered to an event: the first refusal that applies, else Done
abbrev pub reply_of : Election → List Event → Event → Reply
reply_of election kept event =
    if nat_lt (length kept) event_limit then reply_with_room election kept event else Full event_limit

-- whether an event is kept that is answered so
abbrev pub is_done : Reply → Bool
is_done Done = true
is_done (Repeated place) = false
is_done NoSheet = false
is_done (HeldBy station) = false
is_done NotHeld = false
is_done (NotOnSheet contest) = false
is_done (NotAnOption option) = false
is_done (OverSeats given seats) = false
is_done (StillMarginal option) = false
is_done (NoWriteIn slot) = false
is_done (Full count) = false

-- the events that are kept then: the event at the end where it is Done, else those before
abbrev pub next_of : Election → List Event → Event → List Event
next_of election kept event =
    if is_done (reply_of election kept event) then kept ++ event ∷ [] else kept
