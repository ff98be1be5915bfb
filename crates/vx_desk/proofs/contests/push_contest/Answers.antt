use Rattle.std.proofs.Common.{ap, ◌∙◌}
use Rattle.serde_json.specs.Written.{has_float}
use Rattle.vx_desk.proofs.Floatless as floatless
use Rattle.vx_desk.proofs.contests.push_contest.Goals as goal

pub push_item-requires : goal.push_item-requires
push_item-requires c =
    ap has_float c.in_ok-value.ensures
    ∙ floatless.contest_data c.args.election.now c.args.sheet_blank c.args.marks.now c.image_with-image.result.now
