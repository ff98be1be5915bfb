use Rattle.std.proofs.Common.{arith}
use Rattle.std.proofs.lemmas.Int.{ints}
use Rattle.vx_mark_model.proofs.steps.is_near.Goals as goal

pub returns-then-is_close : goal.returns-then-is_close
returns-then-is_close c =
    let across = c.is_close.ensures.0 c.if-is_close.true in (
      λ close.
          let down = c.is_close-then-is_close.ensures.0 close in
          record {
            left = omega (arith, ints, across.0);
            right = omega (arith, ints, across.1);
            top = omega (arith, ints, down.0);
            bottom = omega (arith, ints, down.1);
          },
      λ near. c.is_close-then-is_close.ensures.1 (omega (arith, ints, near.top), omega (arith, ints, near.bottom)),
    )
