use Rattle.std.proofs.Common.{◌≡◌, ◌+◌, ◌*◌, ◌/◌, ◌%◌, ◌<◌, ℕ, List, length, get_or, min, length-append, refl, ap, sym, subst, ◌∙◌, arith}
use Rattle.vx_gray.specs.Gray.{top_of}
use Rattle.vx_gray.proofs.Tops.{top_is, halves_more}
use Rattle.vx_gray.proofs.near.halves_of.Goals as goal

-- half of the greatest, rounded up
half_is : (half top most : ℕ) → half ≡ top / 2 + top % 2 → top ≡ most → half ≡ (most + 1) / 2
half_is half top most halved is = omega arith

pub loop-across-preserved : goal.loop-across-preserved
loop-across-preserved c = record {
  size = ap length c.in_ok-push.ensures.items ∙ (length-append c.loop-across.halves.items _ ∙ ap (λ n. n + 1) c.loop-across.invariant.size);
  values = subst (λ (xs : List ℕ). (a : ℕ) → a < c.loop-across.across + 1 → get_or xs a 0 ≡ (top_of c.args.gray.now a c.args.down + 1) / 2)
      (sym c.in_ok-push.ensures.items)
      (halves_more (λ a. (top_of c.args.gray.now a c.args.down + 1) / 2) c.loop-across.across _ c.loop-across.halves.items c.loop-across.invariant.size
      (half_is _ c.greatest-top.result (top_of c.args.gray.now c.loop-across.across c.args.down) refl
      (c.greatest-top.ensures
      ∙ top_is c.args.gray.now c.args.down c.loop-across.across c.near_start.result c.near_end.result c.args.tops.now c.requires.tops
      c.near_start.ensures (c.near_end.ensures ∙ ap (min (64 * (c.loop-across.across + 2))) c.width-width.ensures.value) (omega arith)))
      c.loop-across.invariant.values);
}
