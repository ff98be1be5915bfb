use Rattle.std.proofs.Common.{◌∙◌, Option, sym, subst}
use Rattle.std.specs.Prelude.{IfSome}
use Rattle.vx_events.specs.declared.event.Event.{Event}
use Rattle.vx_election_model.specs.declared.election.Election.{Election}
use Rattle.vx_events.specs.Fits.{Fits}
use Rattle.vx_command_decide.specs.Lines.{Accepts}
use Rattle.vx_command_decide.proofs.Accepted.{decides}
use Rattle.vx_command_decide.proofs.lines.decide_line.Goals as goal

pub accept-requires : goal.accept-requires
accept-requires g c =
    let Fit : Election → Type 0 = λ election. Fits election c.in-Some.event in
    let Found : Option Event → Type 0 = λ found. IfSome found (Fits c.args.election.now) in
    subst Fit (sym c.requires.same) (subst Found c.in-Some.is c.in_ok-event_of.ensures.fits)

pub returns-in-Some-clause-done : goal.returns-in-Some-clause-done
returns-in-Some-clause-done g c =
    let Accept : Election → Type 0 = λ election. Accepts election c.args.journal.now.center.events c.accept.new.journal.center.events c.args.number c.in-Some.event (g.S.Sink.taken c.args.out.now) (g.S.Sink.taken c.accept.new.out) (g.K.Keeper.held c.args.keeper.now) (g.K.Keeper.held c.accept.new.keeper) c.accept.result in
    decides c.args.election.now c.args.journal.now.center.events c.accept.new.journal.center.events c.args.number c.args.line.now _ _ _ _ c.in-Some.event (sym c.in_ok-event_of.ensures.exact ∙ c.in-Some.is) c.accept.result (subst Accept c.requires.same c.accept.ensures.done)
