use Rattle.std.proofs.Common.{rules}
use Rattle.std.proofs.lemmas.List.FromFn.{fill_by_all}
use Rattle.vx_scan_model.specs.Reading.{box_count_of}
use Rattle.vx_scan_model.proofs.counts.box_counts.Goals as goal

pub returns : goal.returns
returns c = fill_by_all (box_count_of c.args.counter.now c.args.border.now) c.loop-n.counts 84 0 c.loop-n.invariant.all (search rules)
