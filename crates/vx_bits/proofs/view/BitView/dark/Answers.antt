use Rattle.std.proofs.Common.{◌≡◌, ℕ, ◌∙◌, nat_abs, ap, ap₂, sym, inl, inr, arith, to_z, of_z, to_z-of_z, w32, ◌*◌}
use Rattle.std.proofs.lemmas.Int.{ints}
use Rattle.vx_bits.specs.Packed.{packed_pixel}
use Rattle.vx_bits.proofs.Packing.{packed-inside, packed-outside}
use Rattle.vx_bits.proofs.view.BitView.dark.Goals as goal
use Rattle.vx_bits.proofs.view.BitView.dark.Goals.{then-x-self-via-then-x-self, then-x-self-via-else-x-self+then-y-self}

pub returns-then-x-self : goal.returns-then-x-self
returns-then-x-self c =
    let across : nat_abs (to_z w32 (of_z w32 c.args.u)) ≡ nat_abs c.args.u = ap nat_abs (to_z-of_z c.ranges.u) in
    let down : nat_abs (to_z w32 (of_z w32 c.args.v)) ≡ nat_abs c.args.v = ap nat_abs (to_z-of_z c.ranges.v) in
    elim c.then-x-self.branch [
      | then-x-self-via-then-x-self w ↦ sym (packed-outside _ _ _ _ c.args.u c.args.v c.self.view_is (omega (arith, ints)) (omega (arith, ints)) (inl (omega arith)))
      | then-x-self-via-else-x-self+then-y-self w ↦ sym (packed-outside _ _ _ _ c.args.u c.args.v c.self.view_is (omega (arith, ints)) (omega (arith, ints)) (inr (omega arith)))
    ]

pub returns : goal.returns
returns c =
    let across : nat_abs (to_z w32 (of_z w32 c.args.u)) ≡ nat_abs c.args.u = ap nat_abs (to_z-of_z c.ranges.u) in
    let down : nat_abs (to_z w32 (of_z w32 c.args.v)) ≡ nat_abs c.args.v = ap nat_abs (to_z-of_z c.ranges.v) in
    c.is_dark.ensures
    ∙ ap₂ (λ y x. packed_pixel c.self.inside.rows.now y x) (ap₂ (λ (a b : ℕ). a * b) down c.stride.ensures) across
    ∙ sym (packed-inside _ _ _ _ c.args.u c.args.v c.self.view_is (omega (arith, ints)) (omega (arith, ints)) (omega arith) (omega arith))
