use Rattle.std.proofs.Common.{◌≡◌, ◌∙◌, false, Option, Result, Err, ap, subst}
use Rattle.std.proofs.lemmas.List.Elements.{All-same}
use Rattle.std.proofs.lemmas.Result.{err_from_is_err_and}
use Rattle.vx_base.proofs.Booleans.{not-both}
use Rattle.vx_command.specs.declared.halt.Halt.{Halt}
use Rattle.vx_ranked.specs.declared.fault.RankedFault.{RankedFault}
use Rattle.vx_ranked.specs.Groups.{IsGroup}
use Rattle.vx_ranked.specs.Texts.{ranked_text}
use Rattle.vx_ranked.specs.Status.{may_have_written}
use Rattle.vx_ranked.proofs.Acts.{late}
use Rattle.vx_ranked.proofs.Stops.{written_stops}
use Rattle.vx_ranked.proofs.writing.write_rounds.Goals as goal

pub write_groups-done-requires-clause-groups : goal.write_groups-done-requires-clause-groups
write_groups-done-requires-clause-groups g c =
    All-same (IsGroup c.args.election.now) c.as_slice.result.now _ c.as_slice.ensures
    (c.read_groups_are_groups.ensures c.args.election.now c.args.plans.now c.args.bytes.now _ c.in-Ok.ensures)

pub returns-in_err-done-in-Ok-clause-nothing_written : goal.returns-in_err-done-in-Ok-clause-nothing_written
returns-in_err-done-in-Ok-clause-nothing_written g c none =
    let err = err_from_is_err_and c.from_residual.result c.from_residual.ensures.1 in
    let Never : Result (Option RankedFault) Halt → Type 0 = λ r. may_have_written r ≡ false in
    let never = subst Never (err.1 ∙ ap Err err.2) none in
    absurd (not-both _
    (late (ranked_text c.args.election.now c.args.center.now.events c.as_slice.result.now) (g.S.Sink.taken c.args.out.now)
    (g.S.Sink.taken c.write_groups-done.new.out) _ c.in_err-done-in-Ok.ensures.done)
    never)

pub returns-in_err-done-in-Ok-clause-stops : goal.returns-in_err-done-in-Ok-clause-stops
returns-in_err-done-in-Ok-clause-stops g c =
    let err = err_from_is_err_and c.from_residual.result c.from_residual.ensures.1 in
    rw (err.1 ∙ ap Err err.2)
    (written_stops (ranked_text c.args.election.now c.args.center.now.events c.as_slice.result.now) (g.S.Sink.taken c.args.out.now)
    (g.S.Sink.taken c.write_groups-done.new.out) c.in_err-done-in-Ok.field-0.0 c.in_err-done-in-Ok.ensures.done)
