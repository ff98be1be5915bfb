use Rattle.std.proofs.Common.{◌≡◌, Bool, true, List, length, replicate, ap, sym, ◌∙◌, subst}
use Rattle.vx_events.specs.declared.event.Event.{Event}
use Rattle.vx_shared.specs.Gained.{events_at}
use Rattle.vx_shared.specs.Interleaving.{Interleaving}
use Rattle.vx_shared.specs.Marks.{either_marked}
use Rattle.vx_shared.proofs.Gaining.{made_none}
use Rattle.vx_shared.proofs.Mixing.{events_all}
use Rattle.vx_shared.proofs.laws.passes_gain_their_calls.Goals as goal

pub returns-clause-nothing : goal.returns-clause-nothing
returns-clause-nothing c pass = made_none pass

pub returns-clause-interleaved : goal.returns-clause-interleaved
returns-clause-interleaved c old now lists none run all =
    let marks : run.marks ≡ replicate (length now.seen) true = ap (λ (own : List Bool). either_marked own run.marks) (sym none) ∙ (sym run.gained.own ∙ all) in
    subst (λ (events : List Event). Interleaving lists events)
    (ap (λ (m : List Bool). events_at m now.seen) marks ∙ events_all now.seen) run.mixed
