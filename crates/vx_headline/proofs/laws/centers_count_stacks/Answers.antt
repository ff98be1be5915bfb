use Rattle.vx_headline.proofs.Stacks.{centers-count-stacks}
use Rattle.vx_headline.proofs.laws.centers_count_stacks.Goals as goal

pub returns : goal.returns
returns c = centers-count-stacks c.raw_images_join.ensures c.what_is_written_reads_back.ensures
