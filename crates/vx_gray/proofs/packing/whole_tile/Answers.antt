use Rattle.std.proofs.Common.{◌∙◌}
use Rattle.vx_gray.proofs.Lanes.{mirrored, number_of}
use Rattle.vx_gray.proofs.packing.whole_tile.Goals as goal

pub returns : goal.returns
unfolding number_of
returns c = c.to_be_bytes.ensures ∙ mirrored c.args.pixels.now c.args.half c.requires
