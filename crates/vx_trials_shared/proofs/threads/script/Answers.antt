use Rattle.std.proofs.Common.{◌≡◌, All, List, [], ◌∷◌, ◌++◌, length, ap, ◌∙◌, subst, sym, arith, length-append}
use Rattle.std.proofs.lemmas.List.Elements.{All-push}
use Rattle.vx_events.specs.declared.event.Event.{Event}
use Rattle.vx_events.specs.Fits.{Fits}
use Rattle.vx_trials_shared.proofs.threads.script.Goals as goal

pub loop-turns-preserved : goal.loop-turns-preserved
loop-turns-preserved c =
    let before : List Event = c.loop-turns.events in
    let add : Event = c.args.add.now in
    let claim : Event = c.args.claim.now in
    let P : Event → Type 0 = Fits c.args._election.now in
    let both : c.push_copy-in-loop-turns.new.script ≡ (before ++ add ∷ []) ++ claim ∷ [] =
    c.in_ok-push_copy-2.ensures ∙ ap (λ (l : List Event). l ++ claim ∷ []) c.in_ok-push_copy.ensures in
    let size = ap (λ (l : List Event). length l) both in
    let more = length-append (before ++ add ∷ []) (claim ∷ []) in
    let first = length-append before (add ∷ []) in
    record {
      long = omega (arith, size, more, first, c.loop-turns.invariant.long);
      few = omega (arith, c.loop-turns-test.true);
      fits = subst (λ (l : List Event). All P l) (sym both)
          (All-push P (before ++ add ∷ []) claim (All-push P before add c.loop-turns.invariant.fits c.requires.add) c.requires.claim);
    }
