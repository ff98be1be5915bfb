-- The first decision that was kept for a contest.
use Rattle.std.proofs.Common.{◌≡◌, ℕ, ◌+◌, ◌⊎◌, inl, inr, Bool, true, false, cond, List, [], ◌∷◌, ◌++◌, refl, sym, ap, ap₂, ◌∙◌, subst, append_assoc, append-nil}
use Rattle.std.specs.Prelude.{◌==◌, Option, Some, None, bytes_eq, slice_get}
use Rattle.std.specs.List.{list_any}
use Rattle.std.proofs.lemmas.List.Concat.{flat_map-append}
use Rattle.std.proofs.lemmas.Slice.Eq.{bytes_eq-Decides}
use Rattle.vx_base.proofs.Booleans.{and-left, and-right}
use Rattle.vx_base.proofs.Numbers.{equal-from_yes}
use Rattle.vx_election_model.specs.declared.contest.Contest.{Contest}
use Rattle.vx_election_model.specs.declared.election.Election.{Election}
use Rattle.vx_grid.specs.declared.state.State.{State}
use Rattle.vx_grid.specs.declared.state.State.TheVariants.{Marked, Marginal, Clear}
use Rattle.vx_rules.specs.declared.marks.ContestMarks.{ContestMarks}
use Rattle.vx_rules.specs.declared.marks.SheetMarks.{SheetMarks}
use Rattle.vx_rules.specs.Reasons.{is_marginal}
use Rattle.vx_events.specs.declared.decision.Decision.{Decision}
use Rattle.vx_events.specs.declared.decision.Decision.TheVariants.{Selections, RuledOvervote, AcceptRead, NameWriteIn}
use Rattle.vx_events.specs.declared.event.Event.{Event}
use Rattle.vx_events.specs.declared.event.Event.TheVariants.{Add, Claim, Release, Decide}
use Rattle.vx_events.specs.declared.key.Key.{Key}
use Rattle.vx_refusals.specs.declared.reply.Reply.{Reply}
use Rattle.vx_refusals.specs.declared.reply.Reply.TheVariants.{Done, HeldBy}
use Rattle.vx_center.specs.Decisions.{decided_by, decided_of, decisions_of, decisions_on, of_contest}
use Rattle.vx_center.specs.Finals.{options_from, selected_by}
use Rattle.vx_center.specs.Holders.{holder_of}
use Rattle.vx_center.specs.Replies.{decide_reply, decision_reply, first_of, if_held, least_marginal, on_contest, on_sheet, reply_of, slot_reply, unless_marginal}
use Rattle.vx_center.specs.Sheets.{marks_on, same_key, sheet_in}
use Rattle.vx_center.specs.Shown.{is_ruling}
use Rattle.vx_center.proofs.Following.{with-room}
use Rattle.vx_center.proofs.Keys.{same-equal}

module _ (key : Key) (contest : ℕ) where
  -- what an event decides of the contest
  abbrev on_event : Event → List Decision
  on_event event = decisions_on contest (decided_by key event)

  behind : (front back : List Event) → decisions_of (front ++ back) key contest ≡ decisions_of front key contest ++ decisions_of back key contest
  behind front back =
      ap (decisions_on contest) (flat_map-append (decided_by key) front back)
      ∙ flat_map-append (of_contest contest) (decided_of front key) (decided_of back key)

  pub first-of : (event : Event) (back : List Event) → decisions_of (event ∷ back) key contest ≡ on_event event ++ decisions_of back key contest
  first-of event back = flat_map-append (of_contest contest) (decided_by key event) (decided_of back key)

  -- an event decides nothing of it, or is a decision of it
  record Rules (event : Event) : Type 0 where
    pub station : ℕ
    pub decision : Decision
    pub is : event ≡ Decide station key contest decision
    pub gives : on_event event ≡ decision ∷ []

  what : (event : Event) → (on_event event ≡ []) ⊎ Rules event
  what (Add other sheet) = inl refl
  what (Claim station other) = inl refl
  what (Release station other) = inl refl
  what (Decide station other number decision) = by (same_key key other) refl (number == contest) refl
    where
      by : (b : Bool) → same_key key other ≡ b → (c : Bool) → (number == contest) ≡ c → (on_event (Decide station other number decision) ≡ []) ⊎ Rules (Decide station other number decision)
      by false apart c is = inl (ap (λ (b : Bool). decisions_on contest (cond b (record { contest = number; decision = decision } ∷ []) [])) apart)
      by true same false apart = inl
          (ap (λ (b : Bool). decisions_on contest (cond b (record { contest = number; decision = decision } ∷ []) [])) same
          ∙ ap (λ (c : Bool). cond c (decision ∷ []) [] ++ []) apart)
      by true same true is = inr (record {
        station = station;
        decision = decision;
        is = rw (same-equal key other same, equal-from_yes number contest is) refl;
        gives = ap (λ (b : Bool). decisions_on contest (cond b (record { contest = number; decision = decision } ∷ []) [])) same ∙ ap (λ (c : Bool). cond c (decision ∷ []) [] ++ []) is;
      })

  -- the first event that decides something of it
  pub record IsFirst (events : List Event) : Type 0 where
    pub front : List Event
    pub station : ℕ
    pub decision : Decision
    pub back : List Event
    pub are : events ≡ front ++ Decide station key contest decision ∷ back
    pub none : decisions_of front key contest ≡ []
    pub first : decisions_of events key contest ≡ decision ∷ decisions_of back key contest

  look : (front back : List Event) → decisions_of front key contest ≡ [] → (decisions_of (front ++ back) key contest ≡ []) ⊎ IsFirst (front ++ back)
  look front [] none = inl (ap (λ (events : List Event). decisions_of events key contest) (append-nil front) ∙ none)
  look front (event ∷ back) none = by (what event) (look (front ++ event ∷ []) back)
    where
      split : (front ++ event ∷ []) ++ back ≡ front ++ event ∷ back
      split = append_assoc front (event ∷ []) back

      by : (on_event event ≡ []) ⊎ Rules event → (decisions_of (front ++ event ∷ []) key contest ≡ [] → (decisions_of ((front ++ event ∷ []) ++ back) key contest ≡ []) ⊎ IsFirst ((front ++ event ∷ []) ++ back)) → (decisions_of (front ++ event ∷ back) key contest ≡ []) ⊎ IsFirst (front ++ event ∷ back)
      by (inl nothing) rest =
          let Seen : List Event → Type 0 = λ events. (decisions_of events key contest ≡ []) ⊎ IsFirst events in
          subst Seen split
          (rest
          (behind front (event ∷ [])
          ∙ ap (λ (before : List Decision). before ++ decisions_of (event ∷ []) key contest) none
          ∙ first-of event []
          ∙ ap (λ (here : List Decision). here ++ []) nothing))
      by (inr rules) rest = inr (record {
        front = front;
        station = rules.station;
        decision = rules.decision;
        back = back;
        are = ap (λ (one : Event). front ++ one ∷ back) rules.is;
        none = none;
        first =
            behind front (event ∷ back)
            ∙ ap (λ (before : List Decision). before ++ decisions_of (event ∷ back) key contest) none
            ∙ first-of event back
            ∙ ap (λ (here : List Decision). here ++ decisions_of back key contest) rules.gives;
      })

  pub first-decision : (events : List Event) → (decisions_of events key contest ≡ []) ⊎ IsFirst events
  first-decision events = look [] events refl

-- a decision that was answered with Done: the sheet was there, and it was right for the sheet
pub record OnSheet (election : Election) (kept : List Event) (key : Key) (contest : ℕ) (decision : Decision) : Type 0 where
  pub sheet : SheetMarks
  pub there : sheet_in kept key ≡ Some sheet
  pub right : decide_reply election (decisions_of kept key contest) contest decision sheet ≡ Done

held-then : (station : ℕ) (held : Option ℕ) (reply : Reply) → if_held station held reply ≡ Done → reply ≡ Done
held-then station None reply h = absurd cc
held-then station (Some holder) reply h = by (holder == station) h
  where
    by : (b : Bool) → cond b reply (HeldBy holder) ≡ Done → reply ≡ Done
    by true h = h
    by false h = absurd cc

pub on-sheet : (election : Election) (kept : List Event) (station : ℕ) (key : Key) (contest : ℕ) (decision : Decision) → reply_of election kept (Decide station key contest decision) ≡ Done → OnSheet election kept key contest decision
on-sheet election kept station key contest decision done = by (sheet_in kept key) refl (with-room election kept (Decide station key contest decision) done)
  where
    by : (found : Option SheetMarks) → sheet_in kept key ≡ found
        → on_sheet found (λ sheet. if_held station (holder_of kept key) (decide_reply election (decisions_of kept key contest) contest decision sheet)) ≡ Done
        → OnSheet election kept key contest decision
    by None is h = absurd cc
    by (Some sheet) is h = record {
      sheet = sheet;
      there = is;
      right = held-then station (holder_of kept key) (decide_reply election (decisions_of kept key contest) contest decision sheet) h;
    }

-- where an option is marginal there is a least one
least-there : (number : ℕ) (states : List State) → list_any is_marginal states ≡ true → first_of (options_from is_marginal number states) ≡ None → ⊥
least-there number [] some none = absurd cc
least-there number (Marked ∷ states) some none = least-there (number + 1) states some none
least-there number (Marginal ∷ states) some none = absurd cc
least-there number (Clear ∷ states) some none = least-there (number + 1) states some none

still : (states : List State) (reply : Reply) → list_any is_marginal states ≡ true → unless_marginal (least_marginal states) reply ≡ Done → ⊥
still states reply some h = by (least_marginal states) refl h
  where
    by : (least : Option ℕ) → least_marginal states ≡ least → unless_marginal least reply ≡ Done → ⊥
    by None is h = least-there 0 states some is
    by (Some option) is h = cc

-- the first decision of a contest with a marginal option is a ruling
first-rules : (contest : Contest) (states : List State) (decision : Decision) → list_any is_marginal states ≡ true → decision_reply contest states None decision ≡ Done → is_ruling decision ≡ true
first-rules contest states (Selections options) some h = refl
first-rules contest states RuledOvervote some h = refl
first-rules contest states AcceptRead some h = absurd (still states Done some h)
first-rules contest states (NameWriteIn slot name) some h = absurd (still states (slot_reply contest (selected_by states None) slot name) some h)

on-contest : (number : ℕ) (contest : Option Contest) (marks : ContestMarks) (decision : Decision) → list_any is_marginal marks.states ≡ true → on_contest number contest (Some marks) (λ one other. decision_reply one other.states None decision) ≡ Done → is_ruling decision ≡ true
on-contest number None marks decision some h = absurd cc
on-contest number (Some contest) marks decision some h = first-rules contest marks.states decision some h

pub rules-first : (election : Election) (decisions : List Decision) (number : ℕ) (decision : Decision) (sheet : SheetMarks) (marks : ContestMarks) → decisions ≡ [] → marks_on sheet number ≡ Some marks → list_any is_marginal marks.states ≡ true → decide_reply election decisions number decision sheet ≡ Done → is_ruling decision ≡ true
rules-first election decisions number decision sheet marks none found some h =
    on-contest number (slice_get election.contests number) marks decision some
    (ap (λ (one : Option ContestMarks). on_contest number (slice_get election.contests number) one (λ contest other. decision_reply contest other.states None decision)) (sym found)
    ∙ ap (λ (before : List Decision). decide_reply election before number decision sheet) (sym none)
    ∙ h)
