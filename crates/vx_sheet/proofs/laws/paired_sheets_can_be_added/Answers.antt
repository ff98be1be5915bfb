use Rattle.vx_sheet.proofs.Kept.{paired-added}
use Rattle.vx_sheet.proofs.laws.paired_sheets_can_be_added.Goals as goal

pub returns : goal.returns
returns c = paired-added c.sheets_fit.ensures c.named_pages_stand_on_the_grid.ensures
