use Rattle.std.proofs.Common.{subst}
use Rattle.vx_plane.specs.Plane.{Page}
use Rattle.vx_walk.specs.Steps.{WalksSheet}
use Rattle.vx_walk.proofs.images.end_sheet.Goals as goal

pub returns-clause-done : goal.returns-clause-done
returns-clause-done g c =
    let Walks : Page → Page → Type 0 = λ front back.
    WalksSheet (g.W.SheetWork.step c.args.work.now c.args.scan.now c.args.number front back) (g.S.Sink.taken c.args.out.now) (g.S.Sink.taken c.sheet.new.out) c.sheet.result in
    let Front : Page → Type 0 = λ front. Walks front c.args.second in
    let Back : Page → Type 0 = λ back. Walks c.view-front.result back in
    subst Front c.view-front.ensures.same (subst Back c.view-back.ensures c.sheet.ensures.done)
