use Rattle.std.proofs.Common.{◌≡◌, ◌<◌, ◌≤◌, ◌∙◌, ap, ap₂, sym, arith, length, List, ℕ}
use Rattle.std.specs.Prelude.{Option}
use Rattle.vx_election_model.specs.declared.election.Election.{Election}
use Rattle.vx_events.specs.declared.event.Event.{Event}
use Rattle.vx_events.specs.declared.event.Event.TheVariants.{Add, Claim, Release, Decide}
use Rattle.vx_refusals.specs.declared.reply.Reply.{Reply}
use Rattle.vx_refusals.specs.declared.reply.Reply.TheVariants.{Done}
use Rattle.vx_center.specs.declared.decided.Decided.{Decided}
use Rattle.vx_center.specs.Kept.{Kept}
use Rattle.vx_center.specs.Decisions.{decisions_on}
use Rattle.vx_center.specs.Replies.{add_reply, claim_reply, if_held, decide_reply, reply_of}
use Rattle.vx_center.proofs.Finding.{place-below}
use Rattle.vx_center.proofs.Answered.{full-reply, room-reply, unknown-reply, claim-found, release-found, decide-found}
use Rattle.vx_center.proofs.center.Center.reply.Goals as goal

pub returns-then-len-ge1000000 : goal.returns-then-len-ge1000000
returns-then-len-ge1000000 c =
    let size = ap (λ (k : Kept). length k.events) c.self.view_is in
    full-reply c.args.self.now.election c.args.self.now.events c.args.event.now (omega (arith, c.if-len-ge1000000.true, c.len.ensures, size))

pub overflow_cast-result : goal.overflow_cast-result
overflow_cast-result c =
    let size = ap (λ (k : Kept). length k.events) c.self.view_is in
    let below = place-below c.args.self.now.events c.in-Add.key c.in-Some.place (sym c.in-Some.ensures.place) in
    omega (arith, below, c.if-len-ge1000000.false, c.len.ensures, size)

pub returns-in-None : goal.returns-in-None
returns-in-None c =
    let election = c.args.self.now.election in
    let kept = c.args.self.now.events in
    let room : length kept < 1000000 = omega (arith, c.if-len-ge1000000.false, c.len.ensures, ap (λ (k : Kept). length k.events) c.self.view_is) in
    ap add_reply c.in-None.ensures.place ∙ room-reply election kept (Add c.in-Add.key c.in-Add.sheet) room ∙ ap (reply_of election kept) (sym c.in-Add.is)

pub returns-in-Some : goal.returns-in-Some
returns-in-Some c =
    let election = c.args.self.now.election in
    let kept = c.args.self.now.events in
    let room : length kept < 1000000 = omega (arith, c.if-len-ge1000000.false, c.len.ensures, ap (λ (k : Kept). length k.events) c.self.view_is) in
    ap add_reply c.in-Some.ensures.place ∙ room-reply election kept (Add c.in-Add.key c.in-Add.sheet) room ∙ ap (reply_of election kept) (sym c.in-Add.is)

pub returns-in-None-find : goal.returns-in-None-find
returns-in-None-find c =
    let election = c.args.self.now.election in
    let kept = c.args.self.now.events in
    let event : Event = Claim c.in-Claim.station c.in-Claim.key in
    let room : length kept < 1000000 = omega (arith, c.if-len-ge1000000.false, c.len.ensures, ap (λ (k : Kept). length k.events) c.self.view_is) in
    unknown-reply election kept event tt c.in-None-find.ensures ∙ room-reply election kept event room ∙ ap (reply_of election kept) (sym c.in-Claim.is)

pub returns-in-Some-find : goal.returns-in-Some-find
returns-in-Some-find c =
    let election = c.args.self.now.election in
    let kept = c.args.self.now.events in
    let event : Event = Claim c.in-Claim.station c.in-Claim.key in
    let room : length kept < 1000000 = omega (arith, c.if-len-ge1000000.false, c.len.ensures, ap (λ (k : Kept). length k.events) c.self.view_is) in
    c.claim_reply.ensures
    ∙ ap (claim_reply c.in-Claim.station) c.holder.ensures
    ∙ claim-found election kept c.in-Claim.key c.in-Some-find.found.sheet.now c.in-Some-find.found.entry.now c.in-Claim.station c.in-Some-find.ensures
    ∙ room-reply election kept event room ∙ ap (reply_of election kept) (sym c.in-Claim.is)

pub returns-in-None-find-2 : goal.returns-in-None-find-2
returns-in-None-find-2 c =
    let election = c.args.self.now.election in
    let kept = c.args.self.now.events in
    let event : Event = Release c.in-Release.station c.in-Release.key in
    let room : length kept < 1000000 = omega (arith, c.if-len-ge1000000.false, c.len.ensures, ap (λ (k : Kept). length k.events) c.self.view_is) in
    unknown-reply election kept event tt c.in-None-find-2.ensures ∙ room-reply election kept event room ∙ ap (reply_of election kept) (sym c.in-Release.is)

pub returns-in-Some-find-2 : goal.returns-in-Some-find-2
returns-in-Some-find-2 c =
    let election = c.args.self.now.election in
    let kept = c.args.self.now.events in
    let event : Event = Release c.in-Release.station c.in-Release.key in
    let room : length kept < 1000000 = omega (arith, c.if-len-ge1000000.false, c.len.ensures, ap (λ (k : Kept). length k.events) c.self.view_is) in
    c.if_held.ensures
    ∙ ap (λ (held : Option ℕ). if_held c.in-Release.station held Done) c.holder-in-Some-find-2.ensures
    ∙ release-found election kept c.in-Release.key c.in-Some-find-2.found.sheet.now c.in-Some-find-2.found.entry.now c.in-Release.station c.in-Some-find-2.ensures
    ∙ room-reply election kept event room ∙ ap (reply_of election kept) (sym c.in-Release.is)

pub returns-in-None-find-3 : goal.returns-in-None-find-3
returns-in-None-find-3 c =
    let election = c.args.self.now.election in
    let kept = c.args.self.now.events in
    let event : Event = Decide c.in-Decide.station c.in-Decide.key c.in-Decide.contest c.in-Decide.decision in
    let room : length kept < 1000000 = omega (arith, c.if-len-ge1000000.false, c.len.ensures, ap (λ (k : Kept). length k.events) c.self.view_is) in
    unknown-reply election kept event tt c.in-None-find-3.ensures ∙ room-reply election kept event room ∙ ap (reply_of election kept) (sym c.in-Decide.is)

pub returns-in-Some-find-3 : goal.returns-in-Some-find-3
returns-in-Some-find-3 c =
    let election = c.args.self.now.election in
    let kept = c.args.self.now.events in
    let event : Event = Decide c.in-Decide.station c.in-Decide.key c.in-Decide.contest c.in-Decide.decision in
    let found = c.in-Some-find-3.found in
    let room : length kept < 1000000 = omega (arith, c.if-len-ge1000000.false, c.len.ensures, ap (λ (k : Kept). length k.events) c.self.view_is) in
    let reply = c.decide_reply.ensures
    ∙ ap₂ (λ (e : Election) (decided : List Decided). decide_reply e (decisions_on c.in-Decide.contest decided) c.in-Decide.contest c.in-Decide.decision found.sheet.now)
    (ap (λ (k : Kept). k.election) c.self.view_is) c.decided.ensures in
    c.if_held-in-Some-find-3.ensures
    ∙ ap₂ (λ (held : Option ℕ) (answer : Reply). if_held c.in-Decide.station held answer) c.holder-in-Some-find-3.ensures reply
    ∙ decide-found election kept c.in-Decide.key found.sheet.now found.entry.now c.in-Decide.station c.in-Decide.contest c.in-Decide.decision c.in-Some-find-3.ensures
    ∙ room-reply election kept event room ∙ ap (reply_of election kept) (sym c.in-Decide.is)
