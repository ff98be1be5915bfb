use Rattle.vx_certified.proofs.Sayable.{AreBounds, reading-sayable}
use Rattle.vx_certified.proofs.readings.readings_are_sayable.Goals as goal

pub returns : goal.returns
returns c election scan reading valid read =
    let laws : AreBounds = record {
      framed = c.accepted_places_are_framed.ensures;
      borders = c.every_scan_has_its_border.ensures;
      certificates = c.readings_are_certificates.ensures;
      stand = c.plans_stand_on_the_grid.ensures;
      named = c.named_pages_stand_on_the_grid.ensures;
      codes = c.codes_name_printed_pages.ensures;
      ranges = c.planned_pages_can_be_printed.ensures.codes;
    } in
    reading-sayable laws election valid scan reading read
