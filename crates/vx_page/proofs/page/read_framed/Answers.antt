use Rattle.std.proofs.Common.{sym, subst}
use Rattle.vx_plane.specs.Plane.{Page}
use Rattle.vx_page.specs.Named.{GivesWithPlan}
use Rattle.vx_scan_model.specs.Reading.{is_allowed}
use Rattle.vx_page.proofs.page.read_framed.Goals as goal

pub returns : goal.returns
returns c =
    let Given : Page → Type 0 = λ page. GivesWithPlan c.args.election.now page c.read_counted-read.result in
    subst Given c.in_ok-counter.ensures c.read_counted-read.ensures
