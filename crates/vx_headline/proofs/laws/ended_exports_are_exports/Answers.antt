use Rattle.vx_headline.proofs.Stacks.{ended-exports-are-exports}
use Rattle.vx_headline.proofs.laws.ended_exports_are_exports.Goals as goal

pub returns : goal.returns
returns c = ended-exports-are-exports
