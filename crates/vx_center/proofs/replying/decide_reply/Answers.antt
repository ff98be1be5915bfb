use Rattle.std.proofs.Common.{◌≡◌, ◌∙◌, ap, ap₂, sym, length, List, Some, refl}
use Rattle.std.specs.Prelude.{Option, slice_get}
use Rattle.std.proofs.lemmas.Option.{slice_get_read}
use Rattle.vx_grid.specs.declared.state.State.{State}
use Rattle.vx_election_model.specs.declared.contest.Contest.{Contest}
use Rattle.vx_rules.specs.declared.marks.ContestMarks.{ContestMarks}
use Rattle.vx_events.specs.declared.decision.Decision.{Decision}
use Rattle.vx_center.specs.Decisions.{decisions_on, ruling_of}
use Rattle.vx_center.specs.Replies.{decision_reply, on_contest}
use Rattle.vx_center.proofs.Few.{read-options}
use Rattle.vx_center.proofs.replying.decide_reply.Goals as goal

pub decision_reply-requires-clause-states : goal.decision_reply-requires-clause-states
decision_reply-requires-clause-states c =
    let contests = c.as_slice.result.now in
    let contest = c.in-Some.contest.now in
    let read = slice_get_read contests (length contests) c.args.number contest refl c.in-Some.ensures.lookup.3.0 c.in-Some.ensures.lookup.1 in
    let there = sym (ap (λ (list : List Contest). slice_get list c.args.number) c.as_slice.ensures) ∙ read in
    ap length c.as_slice-2.ensures
    ∙ read-options c.args.election.now c.args.sheet.now c.args.number contest c.in-Some-marks_on.marks.now c.requires.fits there (sym c.in-Some-marks_on.ensures)

pub returns : goal.returns
returns c =
    let contests = c.as_slice.result.now in
    let contest = c.in-Some.contest.now in
    let read = slice_get_read contests (length contests) c.args.number contest refl c.in-Some.ensures.lookup.3.0 c.in-Some.ensures.lookup.1 in
    let there = sym (ap (λ (list : List Contest). slice_get list c.args.number) c.as_slice.ensures) ∙ read in
    let decisions = decisions_on c.args.number c.args.decided.now in
    c.decision_reply.ensures
    ∙ ap₂ (λ (states : List State) (ruling : Option Decision). decision_reply contest states ruling c.args.decision.now) c.as_slice-2.ensures c.ruling_on.ensures
    ∙ sym (ap₂ (λ (found : Option Contest) (marks : Option ContestMarks).
    on_contest c.args.number found marks (λ (one : Contest) (read : ContestMarks). decision_reply one read.states (ruling_of decisions) c.args.decision.now))
    there (sym c.in-Some-marks_on.ensures))
