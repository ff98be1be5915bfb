use Rattle.std.proofs.Common.{◌≡◌, ◌-◌, pos, ◌-ℤ◌, ap, ◌∙◌, arith}
use Rattle.vx_plane.specs.Plane.{dark_at}
use Rattle.vx_plane.specs.Count.{count_in}
use Rattle.vx_plane.proofs.Counts.{count_in-complement, count_in-le_area}
use Rattle.vx_mark.proofs.Deficits.{less_by}
use Rattle.vx_mark.proofs.judge.light_in_row.Goals as goal

pub overflow_sub-result : goal.overflow_sub-result
overflow_sub-result c = omega (arith, c.run.ensures, count_in-le_area (pos (c.args.u - 17)) (pos c.args.row) 34 1 (dark_at c.args.counter.now))

pub returns-clause-value : goal.returns-clause-value
returns-clause-value c =
    let set = dark_at c.args.counter.now in
    let moved : c.run.result ≡ count_in (pos c.args.u -ℤ pos 17) (pos c.args.row) 34 1 set = c.run.ensures ∙ ap (λ z. count_in z (pos c.args.row) 34 1 set) (less_by c.args.u 17 (omega arith)) in
    omega (arith, count_in-complement (pos c.args.u -ℤ pos 17) (pos c.args.row) 34 1 set)
