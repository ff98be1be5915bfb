use Rattle.std.proofs.Common.{◌∙◌, ap, sym}
use Rattle.vx_election_model.specs.declared.election.Election.{Election}
use Rattle.vx_desk.specs.Waits.{sheet_waits}
use Rattle.vx_command_desk.proofs.Silent.{silent}
use Rattle.vx_command_desk.proofs.sheets.make_text.Goals as goal

pub returns-else-waits : goal.returns-else-waits
returns-else-waits c =
    c.new.ensures
    ∙ sym
    (silent c.args.setting.now.election.now c.args.setting.now.center.now.events c.args.setting.now.batch.now c.args.scan.now c.args.number c.args.first.now c.args.second.now
    (ap (λ (election : Election). sheet_waits election c.args.setting.now.center.now.events c.args.setting.now.batch.now c.args.number)
    (sym c.requires.same)
    ∙ sym c.waits.ensures ∙ c.if-waits.false))
