use Rattle.std.proofs.Common.{◌+◌, ◌*◌, ◌/◌, ◌^◌, ap, ◌∙◌}
use Rattle.std.proofs.lemmas.Nat.{shr-shr}
use Rattle.vx_raster.proofs.Runs.{painted-run, run-within, painted-column}
use Rattle.vx_raster.proofs.Shapes.{painted-one_patch}
use Rattle.vx_raster.proofs.text.paint_column.Goals as goal

pub loop-rest-preserved : goal.loop-rest-preserved
loop-rest-preserved c =
    let before = c.loop-rest.invariant in
    let top = c.loop-rest.top in
    let light = c.first_run-light.result.0 in
    let dark = c.first_run-light.result.1 in
    record {
      within = run-within c.args.bits c.loop-rest.rest top light dark c.requires.seven before.left c.first_run-light.ensures;
      left = ap (λ n. n / 2 ^ (light + dark)) before.left ∙ shr-shr c.args.bits top (light + dark);
      so_far = painted-run c.args.page.now c.loop-rest.page _ c.args.bits c.loop-rest.rest c.args.x c.args.y top light dark before.left c.first_run-light.ensures before.so_far
          ((rw c.from.ensures at c.stamp.ensures) ∙ painted-one_patch c.loop-rest.page c.args.x (c.args.y + 2 * (top + light)) 2 (2 * dark));
    }

pub returns : goal.returns
returns c =
    let before = c.loop-rest.invariant in
    painted-column c.args.page.now c.loop-rest.page c.args.bits c.loop-rest.rest c.args.x c.args.y c.loop-rest.top before.left c.loop-rest-test.false before.within before.so_far
