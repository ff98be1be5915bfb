use Rattle.std.proofs.Common.{◌+◌, ◌≤◌, length}
use Rattle.vx_pbm.specs.Images.{images_left}
use Rattle.vx_command_center.proofs.Scripts.{CountsUpTo}
use Rattle.vx_command_center.proofs.lines.count_images.Given as goal

-- so many images were found; each took a byte at least
abbrev pub invariant-images : goal.invariant-images
invariant-images l = record {
  counted : CountsUpTo l.bytes l.count (images_left l.reader);
  room : l.count + length l.reader.text ≤ length l.bytes;
}

abbrev pub decreases-images : goal.decreases-images
decreases-images l = length l.reader.text
