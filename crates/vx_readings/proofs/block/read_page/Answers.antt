use Rattle.std.proofs.Common.{rules}
use Rattle.vx_readings.specs.Readings.{page_by}
use Rattle.vx_readings.proofs.block.read_page.Goals as goal

pub returns-in_err-first : goal.returns-in_err-first
unfolding page_by
returns-in_err-first c = search rules

pub returns-in-Fault : goal.returns-in-Fault
unfolding page_by
returns-in-Fault c = search rules

pub returns-in-Block : goal.returns-in-Block
unfolding page_by
returns-in-Block c = search rules
