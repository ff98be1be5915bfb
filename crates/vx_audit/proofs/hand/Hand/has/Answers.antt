use Rattle.std.proofs.Common.{◌∙◌, ap}
use Rattle.std.specs.Prelude.{is_some}
use Rattle.std.specs.List.{list_any}
use Rattle.vx_audit.specs.Hand.{is_for}
use Rattle.vx_audit.proofs.LinePlaces.{some-position}
use Rattle.vx_audit.proofs.hand.Hand.has.Goals as goal

pub returns : goal.returns
returns c =
    c.contains_key.ensures
    ∙ ap is_some (c.self.invariant.at (c.args.ballot, c.args.contest))
    ∙ some-position (is_for c.args.ballot c.args.contest) 0 c.self.inside.lines.items
    ∙ ap (list_any (is_for c.args.ballot c.args.contest)) c.self.view_is
