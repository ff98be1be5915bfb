use Rattle.std.proofs.Common.{length}
use Rattle.vx_command_check.proofs.Counted.{CountedTo}
use Rattle.vx_command_check.proofs.walking.count_images.Given as goal

-- the images so far are counted
abbrev pub invariant-images : goal.invariant-images
invariant-images l = CountedTo l.bytes l.reader l.count

abbrev pub decreases-images : goal.decreases-images
decreases-images l = length l.reader.text
