use Rattle.std.proofs.Common.{subst}
use Rattle.std.specs.List.{AllZip}
use Rattle.std.proofs.lemmas.Result.{IfOk-weaker}
use Rattle.vx_plane.specs.Plane.{Page}
use Rattle.vx_sheet.specs.Reads.{IsReadOf}
use Rattle.vx_base.proofs.Lists.{zip_weaker}
use Rattle.vx_command_count.proofs.reads.read_images.Goals as goal

pub returns : goal.returns
returns g c =
    let election = c.args.setting.now.election.now in
    IfOk-weaker c.map_tasks.result _ (λ reads. AllZip (IsReadOf election) c.args.images.now reads.items)
    (λ reads each. zip_weaker _ (IsReadOf election)
    (λ image read r. let Of : Page → Type 0 = λ page. IsReadOf election page read in subst Of r.shows r.says.met)
    c.args.images.now reads.items each)
    c.map_tasks.ensures.in_order
