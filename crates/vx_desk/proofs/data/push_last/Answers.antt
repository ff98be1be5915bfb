use Rattle.std.proofs.Common.{◌∙◌, ap}
use Rattle.serde_json.specs.Written.{has_float}
use Rattle.vx_desk.specs.Lines.{missing_of}
use Rattle.vx_desk.specs.Waits.{waiting_in}
use Rattle.vx_desk.proofs.Floatless.{left_data}
use Rattle.vx_desk.proofs.data.push_last.Goals as goal

pub push_line-requires : goal.push_line-requires
push_line-requires c =
    ap has_float c.in_ok-value.ensures
    ∙ left_data (missing_of c.args.center.now.election c.args.center.now.events c.args.batch.now c.args.sheets) (waiting_in c.args.center.now.election c.args.center.now.events c.args.batch.now)
