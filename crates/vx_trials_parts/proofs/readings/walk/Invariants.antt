use Rattle.std.proofs.Common.{length}
use Rattle.vx_trials_parts.proofs.readings.walk.Given as goal

abbrev pub decreases-pages : goal.decreases-pages
decreases-pages l = length l.reader.left.lines
