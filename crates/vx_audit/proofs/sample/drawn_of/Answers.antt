use Rattle.std.proofs.Common.{◌∙◌, length-set}
use Rattle.std.specs.Prelude.{◌%◌}
use Rattle.std.proofs.lemmas.Nat.{mod_below}
use Rattle.vx_audit.proofs.Drawn.{one-drawn}
use Rattle.vx_audit.proofs.sample.drawn_of.Goals as goal

pub loop-index-preserved : goal.loop-index-preserved
loop-index-preserved c =
    let before = c.loop-index.invariant in
    record {
      sized = length-set c.loop-index.drawn.items (c.draw-word.result % c.args.count) _ ∙ before.sized;
      words = c.draw-word.ensures.next;
      value = one-drawn c.args.seed c.loop-index.index c.args.count c.draw-word.result c.loop-index.drawn.items c.draw-word.ensures.word before.sized (mod_below c.draw-word.result c.args.count c.requires) before.value;
    }
