use Rattle.vx_headline.proofs.Stacks.{stacks-are-recounted}
use Rattle.vx_headline.proofs.laws.stacks_are_recounted.Goals as goal

pub returns : goal.returns
returns c = stacks-are-recounted c.raw_images_join.ensures c.what_is_written_reads_back.ensures c.runs_keep_events.ensures c.journals_are_their_events.ensures
