use Rattle.std.proofs.lemmas.Result.{IfOk-at_ok}
use Rattle.vx_shared.specs.Calls.{HasCalled}
use Rattle.vx_shared.proofs.Gaining.{call_makes}
use Rattle.vx_shared.proofs.making.make.Goals as goal

pub returns-in-Ok-clause-made : goal.returns-in-Ok-clause-made
returns-in-Ok-clause-made g c =
    let receipt = c.in-Ok.field-0 in
    let called : HasCalled c.args.pass c.args.event receipt.place receipt.reply c.call-pass.result.0 =
    IfOk-at_ok (λ r. HasCalled c.args.pass c.args.event r.place r.reply c.call-pass.result.0) c.in-Ok.is c.call-pass.ensures.called in
    call_makes c.args.pass c.call-pass.result.0 c.args.event receipt.place receipt.reply c.requires.calls called
