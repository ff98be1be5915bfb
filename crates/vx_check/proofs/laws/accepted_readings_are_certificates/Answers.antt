use Rattle.vx_count.specs.Turned.{shown_page}
use Rattle.vx_check.proofs.Certified.{laws-of, tested-certified}
use Rattle.vx_check.proofs.laws.accepted_readings_are_certificates.Goals as goal

pub returns : goal.returns
returns c election page reading valid passes =
    let laws =
    laws-of c.places_are_tested.ensures c.accepted_places_are_framed.ensures c.codes_are_given_back.ensures c.codes_name_printed_pages.ensures in
    tested-certified laws election (shown_page reading.turned page) reading passes
