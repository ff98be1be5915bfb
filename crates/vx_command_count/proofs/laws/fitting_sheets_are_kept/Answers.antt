use Rattle.vx_command_count.proofs.Standing.{keeps}
use Rattle.vx_command_count.proofs.laws.fitting_sheets_are_kept.Goals as goal

pub returns : goal.returns
returns c = keeps c.taken_elections_are_valid.ensures c.scanned_images_are_whole.ensures c.fitting_sheets_are_read.ensures
