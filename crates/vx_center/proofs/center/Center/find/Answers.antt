use Rattle.std.proofs.Common.{sym}
use Rattle.vx_center.proofs.Finding.{found-answers}
use Rattle.vx_center.proofs.center.Center.find.Goals as goal

pub returns : goal.returns
returns c =
    found-answers c.args.self.now.election c.args.self.now.events c.args.key.now c.in_ok-place.field-0 (sym c.in_ok-place.ensures.place) c.found.result c.found.ensures
