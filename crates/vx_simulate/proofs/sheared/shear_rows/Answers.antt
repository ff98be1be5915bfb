use Rattle.std.proofs.Common.{◌≡◌, ◌*◌, ◌/◌, arith}
use Rattle.vx_geom.specs.Slants.{slant_of}
use Rattle.vx_simulate.proofs.ScanRows.{shows-at}
use Rattle.vx_simulate.proofs.sheared.shear_rows.Goals as goal

pub par_chunks_mut_for_each-requires-clause-accepts : goal.par_chunks_mut_for_each-requires-clause-accepts
par_chunks_mut_for_each-requires-clause-accepts g c = λ lives outlives start p chunk.
    let size = chunk.full_size c.requires.whole in
    (c.requires.shear, (c.requires.strips, (size, (omega (arith, chunk.in_bounds, size, c.requires.few), omega (arith, chunk.in_bounds, size, c.requires.rows)))))

pub returns : goal.returns
returns g c = λ v h.
    let at = c.par_chunks_mut_for_each.ensures.chunks v h in
    let row : v * 225 / 225 ≡ v = omega arith in
    shows-at (slant_of c.args.shear) c.args.rows.now c.args.strips.now (v * 225 / 225) v at.argument.now at.after_call.now _ _ at.call row at.argument_is at.left
