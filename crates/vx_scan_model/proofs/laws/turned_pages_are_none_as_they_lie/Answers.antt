use Rattle.vx_scan_model.proofs.TurnedRead.{upright-fault}
use Rattle.vx_scan_model.proofs.laws.turned_pages_are_none_as_they_lie.Goals as goal

pub returns : goal.returns
returns c = λ election scan printed plan marks valid whole fits.
    let none = upright-fault c.laws_below.ensures.upright c.laws_below.ensures.turned election valid scan whole printed plan marks fits in
    (none.fault, none.is)
