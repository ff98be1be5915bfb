use Rattle.vx_plane.specs.Plane.{Page}
use Rattle.vx_count.specs.Turned.{shown_page}
use Rattle.vx_check.proofs.Codes.{read-passes}
use Rattle.vx_check.proofs.Certified.{laws-of, certified-tested}
use Rattle.vx_check.proofs.laws.certificates_are_accepted.Goals as goal

pub returns : goal.returns
returns c election page reading valid certified =
    let laws =
    laws-of c.places_are_tested.ensures c.accepted_places_are_framed.ensures c.codes_are_given_back.ensures c.codes_name_printed_pages.ensures in
    let seen : Page = shown_page reading.turned page in
    certified-tested laws election seen reading certified (read-passes seen reading.border reading.code c.read_codes_are_shown.ensures certified.code)
