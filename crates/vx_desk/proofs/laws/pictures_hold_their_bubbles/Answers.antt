use Rattle.vx_desk.proofs.Held.{hold_bubbles}
use Rattle.vx_desk.proofs.laws.pictures_hold_their_bubbles.Goals as goal

pub returns : goal.returns
returns c = hold_bubbles c.readings_are_certificates.ensures c.named_pages_stand_on_the_grid.ensures
