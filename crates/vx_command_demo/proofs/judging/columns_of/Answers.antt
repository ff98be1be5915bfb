use Rattle.std.proofs.Common.{◌≡◌, ◌<◌, ◌≤◌, length, rules, ap, ◌∙◌, arith}
use Rattle.std.specs.Int.{w32}
use Rattle.std.specs.Prelude.{FitsSigned}
use Rattle.std.proofs.lemmas.Int.{ints}
use Rattle.std.proofs.lemmas.List.{take_all}
use Rattle.vx_grid.specs.Marks.{marks}
use Rattle.vx_grid.specs.declared.places.Point.{Point}
use Rattle.vx_command_demo.specs.Sums.{columns_at}
use Rattle.vx_command_demo.proofs.Signed.{signed-more}
use Rattle.vx_command_demo.proofs.judging.columns_of.Goals as goal

pub at-place-requires : goal.at-place-requires
at-place-requires c =
    let count : c.marks-k-end.result ≡ marks c.args.border.now.paper = c.marks-k-end.ensures.exact ∙ ap marks c.paper.ensures in
    omega (arith, count)

pub loop-k-preserved : goal.loop-k-preserved
loop-k-preserved c =
    let place : Point = c.at-place.result in
    let fits : FitsSigned w32 place.u = search rules in
    let more = signed-more (λ (p : Point). p.u) c.args.border.now.places c.loop-k.k place c.at-place.ensures.place in
    record {
      sum = omega (arith, ints, more, c.loop-k.invariant.sum);
      bound = record { low = omega (arith, ints, c.loop-k.invariant.bound.low); high = omega (arith, ints, c.loop-k.invariant.bound.high) };
      all = λ _. c.at-place.ensures.all;
    }

pub returns : goal.returns
returns c =
    let count : c.marks-k-end.result ≡ marks c.args.border.now.paper = c.marks-k-end.ensures.exact ∙ ap marks c.paper.ensures in
    let some : 0 < c.loop-k.k = omega (arith, c.marks-k-end.ensures.bound.0) in
    let many : length c.args.border.now.places ≤ c.loop-k.k = omega (arith, c.loop-k.invariant.all some, count) in
    record {
      sum = c.loop-k.invariant.sum ∙ ap columns_at (take_all c.loop-k.k c.args.border.now.places many);
      bound = record {
        low = omega (arith, ints, c.loop-k.invariant.bound.low, c.marks-k-end.ensures.bound.1);
        high = omega (arith, ints, c.loop-k.invariant.bound.high, c.marks-k-end.ensures.bound.1);
      };
    }
