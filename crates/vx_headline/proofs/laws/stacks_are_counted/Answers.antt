use Rattle.vx_headline.proofs.Stacks.{stacks-are-counted}
use Rattle.vx_headline.proofs.laws.stacks_are_counted.Goals as goal

pub returns : goal.returns
returns c = stacks-are-counted c.raw_images_join.ensures c.what_is_written_reads_back.ensures
