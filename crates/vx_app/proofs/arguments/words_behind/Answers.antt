use Rattle.std.proofs.Common.{◌≡◌, [], ◌∷◌, ◌++◌, List, ℕ, drop, map, length, ap, arith, rules, length-append, string_bytes}
use Rattle.vx_app.proofs.Moving.{one_moved, seen_at}
use Rattle.vx_app.proofs.arguments.words_behind.Goals as goal

pub loop-index-preserved : goal.loop-index-preserved
loop-index-preserved c =
    let all : List (List ℕ) = map (λ text. string_bytes text) c.args.arguments.now in
    let pushed : c.push.new.self ≡ c.loop-index.words ++ c.as_str.result.now ∷ [] = c.in_ok-push.ensures in
    record {
      moved = rw pushed (one_moved c.loop-index.words all (drop 2 all) c.loop-index.index c.as_str.result.now
          (seen_at (λ text. string_bytes text) c.args.arguments.now c.loop-index.index c.index-arguments-index.result c.as_str.result.now c.loop-index-test.true c.index-arguments-index.is (search rules)) c.loop-index.invariant.moved);
      count = omega (arith, ap length pushed, length-append c.loop-index.words (c.as_str.result.now ∷ []), c.loop-index.invariant.count);
    }
