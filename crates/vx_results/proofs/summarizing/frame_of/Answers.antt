use Rattle.vx_results.proofs.Sized.{options-there}
use Rattle.vx_results.proofs.summarizing.frame_of.Goals as goal

pub contests_of-requires : goal.contests_of-requires
contests_of-requires c = options-there c.args.election.now c.requires
