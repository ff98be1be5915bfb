use Rattle.std.proofs.Common.{◌<◌, sym, subst, arith}
use Rattle.std.specs.Prelude.{All}
use Rattle.vx_audit.specs.Sample.{word_of}
use Rattle.vx_audit.proofs.Drawn.{rest-below}
use Rattle.std.specs.List.{range_with_len}
use Rattle.vx_audit.proofs.sample.draw_places.Goals as goal

pub returns-clause-within : goal.returns-clause-within
returns-clause-within c =
    subst (All (λ k. k < c.args.count)) (sym c.in_ok-places.ensures)
    (rest-below (word_of c.args.seed) c.args.count (omega arith) (range_with_len 0 c.args.size))
