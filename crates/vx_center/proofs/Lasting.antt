-- What lasts over whole runs.
use Rattle.std.proofs.Common.{◌≡◌, ℕ, ◌⊎◌, inl, inr, Bool, true, false, cond, ◌==◌, List, [], ◌∷◌, ◌++◌, length, take, refl, ap, ◌∙◌}
use Rattle.std.specs.Prelude.{Option, Some, None, find, slice_get}
use Rattle.std.proofs.lemmas.List.Concat.{flat_map-append}
use Rattle.vx_base.proofs.Lists.{find-front}
use Rattle.vx_base.proofs.Numbers.{equal-from_yes}
use Rattle.vx_election_model.specs.declared.contest.Contest.{Contest}
use Rattle.vx_election_model.specs.declared.election.Election.{Election}
use Rattle.vx_grid.specs.declared.state.State.{State}
use Rattle.vx_rules.specs.declared.marks.SheetMarks.{SheetMarks}
use Rattle.vx_rules.specs.Reasons.{is_blank_sheet}
use Rattle.vx_events.specs.declared.decision.Decision.{Decision}
use Rattle.vx_events.specs.declared.event.Event.TheVariants.{Claim, Release, Decide}
use Rattle.vx_events.specs.declared.key.Key.{Key}
use Rattle.vx_refusals.specs.declared.reply.Reply.{Reply}
use Rattle.vx_refusals.specs.declared.reply.Reply.TheVariants.{Done, HeldBy}
use Rattle.vx_center.specs.Sheets.{Added, has_key, added_by, sheets_in, sheet_of, sheet_in}
use Rattle.vx_center.specs.Holders.{holder_of}
use Rattle.vx_center.specs.Decisions.{decided_by, decided_of, decisions_of, decisions_on}
use Rattle.vx_center.specs.Replies.{claim_reply, if_held, on_sheet, decide_reply, reply_of, is_done}
use Rattle.vx_center.specs.Waiting.{exports_with, exports}
use Rattle.vx_center.specs.Laws.{SheetsStay, ExportsStay, ClaimsAreFree, ReleasesAreTheHolders, DecisionsAreTheHolders}
use Rattle.vx_center.proofs.Adding.{sheets-push}
use Rattle.vx_center.proofs.Following.{with-room, decided-push}

sheet-front : (key : Key) (sheets more : List Added) (sheet : SheetMarks) → sheet_of (find (has_key key) sheets) ≡ Some sheet → sheet_of (find (has_key key) (sheets ++ more)) ≡ Some sheet
sheet-front key sheets more sheet h = by (find (has_key key) sheets) refl h
  where
    by : (found : Option Added) → find (has_key key) sheets ≡ found → sheet_of found ≡ Some sheet → sheet_of (find (has_key key) (sheets ++ more)) ≡ Some sheet
    by None e h = absurd cc
    by (Some added) e h = ap sheet_of (find-front (has_key key) sheets more added e) ∙ h

pub sheets-last : SheetsStay
sheets-last election kept event key sheet h = by (is_done (reply_of election kept event))
  where
    by : (b : Bool) → sheet_in (cond b (kept ++ event ∷ []) kept) key ≡ Some sheet
    by true = ap (λ (sheets : List Added). sheet_of (find (has_key key) sheets)) (sheets-push kept event) ∙ sheet-front key (sheets_in kept) (added_by (length kept) event) sheet h
    by false = h

exported-last : (contest : Option Contest) (election : Election) (sheet_blank : Bool) (states : List State) (decisions more : List Decision)
    → exports_with election sheet_blank decisions states contest ≡ true → exports_with election sheet_blank (decisions ++ more) states contest ≡ true
exported-last None election sheet_blank states decisions more h = h
exported-last (Some contest) election sheet_blank states [] [] h = h
exported-last (Some contest) election sheet_blank states [] (decision ∷ more) h = refl
exported-last (Some contest) election sheet_blank states (decision ∷ decisions) more h = refl

pub exports-last : ExportsStay
exports-last election kept event added marks h = by (is_done (reply_of election kept event))
  where
    more : List Decision
    more = decisions_on marks.contest (decided_by added.key event)

    by : (b : Bool) → exports election (cond b (kept ++ event ∷ []) kept) added marks ≡ true
    by false = h
    by true =
        ap (λ (decisions : List Decision). exports_with election (is_blank_sheet added.sheet) decisions marks.states (slice_get election.contests marks.contest))
        (ap (decisions_on marks.contest) (decided-push kept event added.key) ∙ flat_map-append _ (decided_of kept added.key) (decided_by added.key event))
        ∙ exported-last (slice_get election.contests marks.contest) election (is_blank_sheet added.sheet) marks.states (decisions_of kept added.key marks.contest) (decisions_on marks.contest (decided_by added.key event)) h

-- who held a sheet where an answer was Done
claim-done : (station : ℕ) (sheet : Option SheetMarks) (held : Option ℕ) → on_sheet sheet (λ (one : SheetMarks). claim_reply station held) ≡ Done → (held ≡ None) ⊎ (held ≡ Some station)
claim-done station None held h = absurd cc
claim-done station (Some sheet) None h = inl refl
claim-done station (Some sheet) (Some holder) h = inr (ap Some (by (holder == station) refl h))
  where
    by : (b : Bool) → (holder == station) ≡ b → cond b Done (HeldBy holder) ≡ Done → holder ≡ station
    by true e h = equal-from_yes holder station e
    by false e h = absurd cc

held-done : (station : ℕ) (held : Option ℕ) (reply : Reply) → if_held station held reply ≡ Done → held ≡ Some station
held-done station None reply h = absurd cc
held-done station (Some holder) reply h = ap Some (by (holder == station) refl h)
  where
    by : (b : Bool) → (holder == station) ≡ b → cond b reply (HeldBy holder) ≡ Done → holder ≡ station
    by true e h = equal-from_yes holder station e
    by false e h = absurd cc

sheet-done : (station : ℕ) (sheet : Option SheetMarks) (held : Option ℕ) (reply : SheetMarks → Reply) → on_sheet sheet (λ (one : SheetMarks). if_held station held (reply one)) ≡ Done → held ≡ Some station
sheet-done station None held reply h = absurd cc
sheet-done station (Some sheet) held reply h = held-done station held (reply sheet) h

pub claims-free : ClaimsAreFree
claims-free election kept place station key history there =
    claim-done station (sheet_in (take place kept) key) (holder_of (take place kept) key) (with-room election (take place kept) (Claim station key) (history.done place _ there))

pub releases-held : ReleasesAreTheHolders
releases-held election kept place station key history there =
    sheet-done station (sheet_in (take place kept) key) (holder_of (take place kept) key) (λ (one : SheetMarks). Done) (with-room election (take place kept) (Release station key) (history.done place _ there))

pub decisions-held : DecisionsAreTheHolders
decisions-held election kept place station contest key decision history there =
    sheet-done station (sheet_in (take place kept) key) (holder_of (take place kept) key)
    (λ (one : SheetMarks). decide_reply election (decisions_of (take place kept) key contest) contest decision one)
    (with-room election (take place kept) (Decide station key contest decision) (history.done place _ there))
