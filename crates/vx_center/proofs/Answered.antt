-- What is answered to an event, by what was found.
use Rattle.std.proofs.Common.{◌≡◌, ℕ, ◌<◌, ◌≤◌, Bool, true, false, cond, List, length, refl, sym, ap, ap₂, ◌∙◌, arith}
use Rattle.std.specs.Prelude.{Option, Some, None, nat_lt}
use Rattle.std.proofs.lemmas.Bool.{cond-true, cond-false}
use Rattle.vx_base.proofs.Numbers.{below-yes, below-no}
use Rattle.vx_election_model.specs.declared.election.Election.{Election}
use Rattle.vx_rules.specs.declared.marks.SheetMarks.{SheetMarks}
use Rattle.vx_events.specs.declared.decision.Decision.{Decision}
use Rattle.vx_events.specs.declared.event.Event.{Event}
use Rattle.vx_events.specs.declared.event.Event.TheVariants.{Add, Claim, Release, Decide}
use Rattle.vx_events.specs.declared.key.Key.{Key}
use Rattle.vx_refusals.specs.declared.reply.Reply.{Reply}
use Rattle.vx_refusals.specs.declared.reply.Reply.TheVariants.{Done, Repeated, NoSheet, Full}
use Rattle.vx_center.specs.declared.decided.Decided.{Decided}
use Rattle.vx_center.specs.Sheets.{place_in, sheet_in}
use Rattle.vx_center.specs.Holders.{holder_of}
use Rattle.vx_center.specs.Decisions.{decided_of, decisions_on}
use Rattle.vx_center.specs.Replies.{event_limit, add_reply, claim_reply, if_held, on_sheet, decide_reply, reply_with_room, reply_of}
use Rattle.vx_center.specs.States.{Entry, IsFound, IsUnknown}
use Rattle.vx_center.proofs.Following.{Asks, key_of}

pub full-reply : (election : Election) (kept : List Event) (event : Event) → 1000000 ≤ length kept → Full 1000000 ≡ reply_of election kept event
unfolding event_limit
full-reply election kept event h = sym (cond-false (nat_lt (length kept) 1000000) (reply_with_room election kept event) (Full 1000000) (below-no (length kept) 1000000 h))

pub room-reply : (election : Election) (kept : List Event) (event : Event) → length kept < 1000000 → reply_with_room election kept event ≡ reply_of election kept event
unfolding event_limit
room-reply election kept event h = sym (cond-true (nat_lt (length kept) 1000000) (reply_with_room election kept event) (Full 1000000) (below-yes (length kept) 1000000 h))

pub unknown-reply : (election : Election) (kept : List Event) (event : Event) → Asks event → IsUnknown kept (key_of event) → NoSheet ≡ reply_with_room election kept event
unknown-reply election kept (Add key sheet) asks is = absurd asks
unknown-reply election kept (Claim station key) asks is = ap (λ (o : Option SheetMarks). on_sheet o (λ (sheet : SheetMarks). claim_reply station (holder_of kept key))) (sym is.missing)
unknown-reply election kept (Release station key) asks is = ap (λ (o : Option SheetMarks). on_sheet o (λ (sheet : SheetMarks). if_held station (holder_of kept key) Done)) (sym is.missing)
unknown-reply election kept (Decide station key contest decision) asks is =
    ap (λ (o : Option SheetMarks). on_sheet o (λ (sheet : SheetMarks). if_held station (holder_of kept key)
    (decide_reply election (decisions_on contest (decided_of kept key)) contest decision sheet))) (sym is.missing)

pub claim-found : (election : Election) (kept : List Event) (key : Key) (sheet : SheetMarks) (entry : Entry) (station : ℕ) → IsFound election kept key sheet entry
    → claim_reply station entry.holder ≡ reply_with_room election kept (Claim station key)
claim-found election kept key sheet entry station is =
    ap (claim_reply station) (sym is.held)
    ∙ ap (λ (o : Option SheetMarks). on_sheet o (λ (sheet : SheetMarks). claim_reply station (holder_of kept key))) (sym is.there)

pub release-found : (election : Election) (kept : List Event) (key : Key) (sheet : SheetMarks) (entry : Entry) (station : ℕ) → IsFound election kept key sheet entry
    → if_held station entry.holder Done ≡ reply_with_room election kept (Release station key)
release-found election kept key sheet entry station is =
    ap (λ (held : Option ℕ). if_held station held Done) (sym is.held)
    ∙ ap (λ (o : Option SheetMarks). on_sheet o (λ (sheet : SheetMarks). if_held station (holder_of kept key) Done)) (sym is.there)

pub decide-found : (election : Election) (kept : List Event) (key : Key) (sheet : SheetMarks) (entry : Entry) (station contest : ℕ) (decision : Decision) → IsFound election kept key sheet entry
    → if_held station entry.holder (decide_reply election (decisions_on contest entry.decided) contest decision sheet) ≡ reply_with_room election kept (Decide station key contest decision)
decide-found election kept key sheet entry station contest decision is =
    ap₂ (λ (held : Option ℕ) (decided : List Decided). if_held station held (decide_reply election (decisions_on contest decided) contest decision sheet)) (sym is.held) (sym is.ruled)
    ∙ ap (λ (o : Option SheetMarks). on_sheet o (λ (sheet : SheetMarks). if_held station (holder_of kept key)
    (decide_reply election (decisions_on contest (decided_of kept key)) contest decision sheet))) (sym is.there)
