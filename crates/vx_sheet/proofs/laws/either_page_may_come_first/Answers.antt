use Rattle.vx_sheet.proofs.Either.{either-first}
use Rattle.vx_sheet.proofs.laws.either_page_may_come_first.Goals as goal

pub returns : goal.returns
returns c = either-first
