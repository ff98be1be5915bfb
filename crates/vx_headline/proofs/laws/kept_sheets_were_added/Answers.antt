use Rattle.vx_headline.proofs.Stacks.{kept-sheets-were-added}
use Rattle.vx_headline.proofs.laws.kept_sheets_were_added.Goals as goal

pub returns : goal.returns
returns c = kept-sheets-were-added
