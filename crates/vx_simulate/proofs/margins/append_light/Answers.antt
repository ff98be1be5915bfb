use Rattle.std.proofs.Common.{◌≡◌, ◌+◌, ◌*◌, ◌++◌, replicate, append_assoc, ap, ◌∙◌, arith}
use Rattle.std.proofs.lemmas.List.{replicate-append-replicate}
use Rattle.vx_simulate.proofs.margins.append_light.Goals as goal

pub loop-n-preserved : goal.loop-n-preserved
loop-n-preserved c =
    let rows = c.args.rows.now.items in
    let more : c.loop-n.n * 264 + 264 ≡ (c.loop-n.n + 1) * 264 = omega arith in
    c.in_ok-extend_from_slice.ensures.items
    ∙ ap (λ xs. xs ++ replicate 264 0) c.loop-n.invariant
    ∙ append_assoc rows (replicate (c.loop-n.n * 264) 0) (replicate 264 0)
    ∙ ap (λ xs. rows ++ xs) (replicate-append-replicate (c.loop-n.n * 264) 264 0 ∙ ap (λ n. replicate n 0) more)
