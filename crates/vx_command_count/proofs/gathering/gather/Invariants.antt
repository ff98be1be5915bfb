use Rattle.std.proofs.Common.{◌<◌, ◌≤◌, ◌+◌, ◌-◌, length}
use Rattle.vx_pbm.specs.Images.{images_left}
use Rattle.vx_command_count.specs.Gathering.{Gathers}
use Rattle.vx_command_count.proofs.gathering.gather.Given as goal

-- the images so far are gathered; where some are, some of the text was read
abbrev pub invariant-loop-reader : goal.invariant-loop-reader
invariant-loop-reader l = record {
  gathers : Gathers l.initial.images.items (images_left l.initial.reader) l.images.items (images_left l.reader);
  few : length l.images.items ≤ 128;
  later : length l.reader.text ≤ length l.initial.reader.text;
  room : length l.images.items + length l.reader.text ≤ length l.initial.images.items + length l.initial.reader.text;
  less : length l.initial.images.items < length l.images.items → length l.reader.text < length l.initial.reader.text;
}

abbrev pub decreases-loop-reader : goal.decreases-loop-reader
decreases-loop-reader l = 128 - length l.images.items
