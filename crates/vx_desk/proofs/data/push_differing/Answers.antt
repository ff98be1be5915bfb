use Rattle.std.proofs.Common.{ap, ◌∙◌}
use Rattle.serde_json.specs.Written.{has_float}
use Rattle.vx_desk.proofs.Floatless.{differing}
use Rattle.vx_desk.proofs.data.push_differing.Goals as goal

pub push_line-requires : goal.push_line-requires
push_line-requires c = ap has_float c.in_ok-value.ensures ∙ differing c.args.center.now.events c.args.key.now c.args.scan.now
