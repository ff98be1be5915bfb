use Rattle.vx_command_check.proofs.Certified.{certifies}
use Rattle.vx_command_check.proofs.laws.certified_pages_say_what_fits.Goals as goal

pub returns : goal.returns
returns c =
    certifies c.accepted_readings_are_certificates.ensures c.texts_in_order.ensures c.taken_elections_are_valid.ensures c.images_are_whole.ensures c.certificates_say_what_fits.ensures
