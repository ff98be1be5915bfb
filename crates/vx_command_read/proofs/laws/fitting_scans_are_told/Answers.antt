use Rattle.vx_command_read.proofs.Told.{tells}
use Rattle.vx_command_read.proofs.laws.fitting_scans_are_told.Goals as goal

pub returns : goal.returns
returns c =
    tells c.texts_in_order.ensures c.taken_elections_are_valid.ensures c.scanned_images_are_whole.ensures c.codes_name_printed_pages.ensures
    c.fitting_scans_are_read.ensures.read
