use Rattle.std.proofs.Common.{◌∙◌, ap, sym, Some}
use Rattle.vx_events.specs.declared.key.Key.{Key}
use Rattle.vx_center.specs.Sheets.{key_of}
use Rattle.vx_desk.specs.Waits.{any_waits, sheet_waits}
use Rattle.vx_desk.proofs.waiting.waits.Goals as goal

pub returns-in-None : goal.returns-in-None
unfolding sheet_waits
returns-in-None c =
    sym (ap (any_waits c.args.center.now.election c.args.center.now.events (key_of c.args.batch.now c.args.number)) c.in-None.ensures)

pub returns-in-Some : goal.returns-in-Some
unfolding sheet_waits
returns-in-Some c =
    c.any_waits.ensures
    ∙ ap (λ (key : Key). any_waits c.args.center.now.election c.args.center.now.events key (Some c.in-Some.sheet.now)) (sym c.in-Some.ensures.same)
    ∙ ap (any_waits c.args.center.now.election c.args.center.now.events (key_of c.args.batch.now c.args.number)) (sym c.in-Some.ensures.there)
