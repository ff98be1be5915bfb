use Rattle.vx_code.proofs.Tags.{tag_of-lt}
use Rattle.vx_code.proofs.laws.tags_are_in_range.Goals as goal

pub returns : goal.returns
returns c = tag_of-lt
