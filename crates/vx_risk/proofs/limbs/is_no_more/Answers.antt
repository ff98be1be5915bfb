use Rattle.std.proofs.Common.{◌≡◌, ◌-◌, ◌^◌, ℕ, suc, drop, ap, sym, ◌∙◌, arith}
use Rattle.vx_risk.specs.Limbs.{number_of}
use Rattle.vx_risk.proofs.Numerals.{decided}
use Rattle.vx_risk.proofs.limbs.is_no_more.Goals as goal

pub returns-then-ours-theirs : goal.returns-then-ours-theirs
returns-then-ours-theirs c =
    let next : c.loop-place.place ≡ suc (c.loop-place.place - 1) = omega (arith, c.loop-place-test.true) in
    let same : number_of (drop (suc (c.loop-place.place - 1)) c.args.first.now) ≡ number_of (drop (suc (c.loop-place.place - 1)) c.args.second.now) =
    ap (λ (n : ℕ). number_of (drop n c.args.first.now)) (sym next) ∙ c.loop-place.invariant ∙ ap (λ (n : ℕ). number_of (drop n c.args.second.now)) next in
    decided (2 ^ 64) c.args.first.now c.args.second.now (c.loop-place.place - 1) c.limb_at-ours.result c.limb_at-theirs.result
    (λ k. omega (arith, c.type_inv.first k)) (λ k. omega (arith, c.type_inv.second k)) same c.limb_at-ours.ensures c.limb_at-theirs.ensures c.if-ours-theirs.true
