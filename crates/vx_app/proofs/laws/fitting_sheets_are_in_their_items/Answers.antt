use Rattle.vx_app.proofs.Adding.{adds-what-fits}
use Rattle.vx_app.proofs.laws.fitting_sheets_are_in_their_items.Goals as goal

pub returns : goal.returns
returns c = adds-what-fits c.taken_elections_are_valid.ensures c.images_are_whole.ensures c.fitting_sheets_are_read.ensures
